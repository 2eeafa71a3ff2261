-- What the relation says of a string's body is what the walk finds.
use Rattle.std.proofs.Common.{◌≡◌, ℕ, zero, suc, ◌+◌, ◌-◌, ◌*◌, ◌%◌, Bool, true, false, not, List, [], ◌∷◌, drop, arith}
use Rattle.std.proofs.Common.{ap, sym, refl, ◌∙◌, subst}
use Rattle.std.specs.Prelude.{◌==◌, ◌||◌}
use Rattle.std.proofs.lemmas.Bool.{false≢true, eqb-true}
use Rattle.ps_scan.specs.Characters.{begins}
use Rattle.ps_scan.specs.Strings.{is_octal, is_plain, is_escaped, escaped, after_return, StringBody}
use Rattle.ps_scan.specs.StringReading.{StringWalk, one_more, gives, normal, walk}
use Rattle.ps_scan.specs.Strings.StringBody.{Closes, ClosesInner, OpensInner, Plain, LineEnd, DropsLine, DropsReturn}
use Rattle.ps_scan.specs.Strings.StringBody.{Escaped, OneOctal, TwoOctals, ThreeOctals}
use Rattle.ps_scan.specs.declared.strings.Inside.TheVariants.{Normal, Return, Escape, One, Two}
use Rattle.ps_scan.specs.declared.strings.Does.TheVariants.{Goes}
use Rattle.proof_words.proofs.Cases.{by_bool}
use Rattle.ps_scan.proofs.Runs.{drop_more}

-- a walk through a text that finds these bytes and this rest
pub record Finds (w : StringWalk) (text bytes rest : List ℕ) : Type 0 where
  pub closed : w.closed ≡ true
  pub meant : w.bytes ≡ bytes
  pub left : drop w.used text ≡ rest

more : (c : ℕ) (w : StringWalk) (text bytes rest : List ℕ) → Finds w text bytes rest →
    Finds (one_more w) (c ∷ text) bytes rest
more c w text bytes rest f = record { closed = f.closed; meant = f.meant; left = drop_more w.used c text ∙ f.left }

given : (b : ℕ) (w : StringWalk) (text bytes rest : List ℕ) → Finds w text bytes rest →
    Finds (gives b w) text (b ∷ bytes) rest
given b w text bytes rest f = record { closed = f.closed; meant = ap (λ bs. b ∷ bs) f.meant; left = f.left }

both_more : (b c : ℕ) (w : StringWalk) (text bytes rest : List ℕ) → Finds w text bytes rest →
    Finds (gives b (one_more w)) (c ∷ text) (b ∷ bytes) rest
both_more b c w text bytes rest f = given b (one_more w) (c ∷ text) bytes rest (more c w text bytes rest f)

not_is : (a : Bool) → not a ≡ true → a ≡ false
not_is true h = absurd (false≢true h)
not_is false h = refl

not_or : (a b : Bool) → not (a || b) ≡ true → (not a ≡ true) × (b ≡ false)
not_or true b h = absurd (false≢true h)
not_or false b h = (refl, not_is b h)

plain_goes : (inner c : ℕ) → is_plain c ≡ true → normal inner c ≡ Goes Normal inner c
unfolding is_plain
plain_goes inner c h =
    let p = not_or (c == 40 || c == 41 || c == 92) (c == 13) h in
    let q = not_or (c == 40 || c == 41) (c == 92) p.0 in
    let r = not_or (c == 40) (c == 41) q.0 in
    rw (not_is (c == 40) r.0, r.1, q.1, p.1) refl

escaped_parts : (c : ℕ) → is_escaped c ≡ true → (is_octal c ≡ false) × ((c == 10) ≡ false) × ((c == 13) ≡ false)
unfolding is_escaped
escaped_parts c h =
    let p = not_or (is_octal c || c == 10) (c == 13) h in
    let q = not_or (is_octal c) (c == 10) p.0 in
    (not_is (is_octal c) q.0, q.1, p.1)

open_suc : (n : ℕ) → (suc n == 0) ≡ false
open_suc n = by_bool (suc n == 0) (λ e. absurd (let z = eqb-true (suc n) 0 e in omega arith)) (λ e. e)

back_one : (n : ℕ) → suc n - 1 ≡ n
back_one n = omega arith

up_one : (n : ℕ) → n + 1 ≡ suc n
up_one n = omega arith

return_finds : (inner : ℕ) (text bytes rest : List ℕ) →
    Finds (walk Normal inner (after_return text)) (after_return text) bytes rest →
    Finds (walk Return inner text) text bytes rest
unfolding walk after_return
return_finds inner [] bytes rest f = f
return_finds inner (c ∷ cs) bytes rest f = by_bool (c == 10)
    (λ e. rw e (more c (walk Normal inner cs) cs bytes rest
    (let g : Finds (walk Normal inner (after_return (c ∷ cs))) (after_return (c ∷ cs)) bytes rest = f in
    rw e at g)))
    (λ e. rw e (let g : Finds (walk Normal inner (after_return (c ∷ cs))) (after_return (c ∷ cs)) bytes rest = f in
    rw e at g))

one_finds : (inner v : ℕ) (text bytes rest : List ℕ) → begins is_octal text ≡ false →
    Finds (walk Normal inner text) text bytes rest → Finds (walk (One v) inner text) text (v ∷ bytes) rest
unfolding walk
one_finds inner v [] bytes rest h f = absurd (false≢true f.closed)
one_finds inner v (c ∷ cs) bytes rest h f = rw h (given v (walk Normal inner (c ∷ cs)) (c ∷ cs) bytes rest f)

two_finds : (inner v : ℕ) (text bytes rest : List ℕ) → begins is_octal text ≡ false →
    Finds (walk Normal inner text) text bytes rest → Finds (walk (Two v) inner text) text (v ∷ bytes) rest
unfolding walk
two_finds inner v [] bytes rest h f = absurd (false≢true f.closed)
two_finds inner v (c ∷ cs) bytes rest h f = rw h (given v (walk Normal inner (c ∷ cs)) (c ∷ cs) bytes rest f)

-- the walk through a body finds the bytes and the rest that the grammar says
pub body_finds : (inner : ℕ) (text bytes rest : List ℕ) → StringBody inner text bytes rest →
    Finds (walk Normal inner text) text bytes rest
unfolding walk
body_finds _ _ _ _ (Closes rest) = record { closed = refl; meant = refl; left = refl }
body_finds _ _ _ _ (ClosesInner inner text bytes rest b) =
    rw (open_suc inner, back_one inner) (both_more 41 41 (walk Normal inner text) text bytes rest
    (body_finds inner text bytes rest b))
body_finds _ _ _ _ (OpensInner inner text bytes rest b) =
    rw (up_one inner) (both_more 40 40 (walk Normal (suc inner) text) text bytes rest
    (body_finds (suc inner) text bytes rest b))
body_finds _ _ _ _ (Plain inner c text bytes rest p b) =
    rw (plain_goes inner c p) (both_more c c (walk Normal inner text) text bytes rest
    (body_finds inner text bytes rest b))
body_finds _ _ _ _ (LineEnd inner text bytes rest b) =
    both_more 10 13 (walk Return inner text) text bytes rest
    (return_finds inner text bytes rest (body_finds inner (after_return text) bytes rest b))
body_finds _ _ _ _ (DropsLine inner text bytes rest b) =
    more 92 (one_more (walk Normal inner text)) (10 ∷ text) bytes rest
    (more 10 (walk Normal inner text) text bytes rest (body_finds inner text bytes rest b))
body_finds _ _ _ _ (DropsReturn inner text bytes rest b) =
    more 92 (one_more (walk Return inner text)) (13 ∷ text) bytes rest
    (more 13 (walk Return inner text) text bytes rest
    (return_finds inner text bytes rest (body_finds inner (after_return text) bytes rest b)))
body_finds _ _ _ _ (Escaped inner c text bytes rest e b) = let p = escaped_parts c e in rw (p.0, p.1, p.2)
    (more 92 (gives (escaped c) (one_more (walk Normal inner text))) (c ∷ text) _ rest
    (both_more (escaped c) c (walk Normal inner text) text bytes rest (body_finds inner text bytes rest b)))
body_finds _ _ _ _ (OneOctal inner a text bytes rest ao n b) =
    rw ao (more 92 (one_more (walk (One (a - 48)) inner text)) (a ∷ text) _ rest
    (more a (walk (One (a - 48)) inner text) text _ rest
    (one_finds inner (a - 48) text bytes rest n (body_finds inner text bytes rest b))))
body_finds _ _ _ _ (TwoOctals inner a b text bytes rest ao bo n d) = rw (ao, bo)
    (more 92 (one_more (one_more (walk (Two (8 * (a - 48) + (b - 48))) inner text))) (a ∷ b ∷ text) _ rest
    (more a (one_more (walk (Two (8 * (a - 48) + (b - 48))) inner text)) (b ∷ text) _ rest
    (more b (walk (Two (8 * (a - 48) + (b - 48))) inner text) text _ rest
    (two_finds inner (8 * (a - 48) + (b - 48)) text bytes rest n (body_finds inner text bytes rest d)))))
body_finds _ _ _ _ (ThreeOctals inner a b c text bytes rest ao bo co d) = rw (ao, bo, co)
    (let v = (8 * (8 * (a - 48) + (b - 48)) + (c - 48)) % 256 in
    more 92 (one_more (one_more (gives v (one_more (walk Normal inner text))))) (a ∷ b ∷ c ∷ text) _ rest
    (more a (one_more (gives v (one_more (walk Normal inner text)))) (b ∷ c ∷ text) _ rest
    (more b (gives v (one_more (walk Normal inner text))) (c ∷ text) _ rest
    (both_more v c (walk Normal inner text) text bytes rest (body_finds inner text bytes rest d)))))

-- the other way round: what a walk finds is a body

less : (c : ℕ) (w : StringWalk) (text bytes rest : List ℕ) → Finds (one_more w) (c ∷ text) bytes rest →
    Finds w text bytes rest
less c w text bytes rest f = record {
  closed = f.closed;
  meant = f.meant;
  left = sym (drop_more w.used c text)
      ∙ f.left;
}

ungiven : (P : List ℕ → Type 0) (b : ℕ) (w : StringWalk) (text bytes rest : List ℕ) →
    Finds (gives b w) text bytes rest → (Finds w text w.bytes rest → P (b ∷ w.bytes)) → P bytes
ungiven P b w text bytes rest f g = subst P f.meant (g (record { closed = f.closed; meant = refl; left = f.left }))

-- what each place in a body tells
record Told (text : List ℕ) : Type 0 where
  normal : (inner : ℕ) (bytes rest : List ℕ) → Finds (walk Normal inner text) text bytes rest →
      StringBody inner text bytes rest
  return : (inner : ℕ) (bytes rest : List ℕ) → Finds (walk Return inner text) text bytes rest →
      StringBody inner (after_return text) bytes rest
  escape : (inner : ℕ) (bytes rest : List ℕ) → Finds (walk Escape inner text) text bytes rest →
      StringBody inner (92 ∷ text) bytes rest
  one : (inner a : ℕ) (bytes rest : List ℕ) → is_octal a ≡ true →
      Finds (walk (One (a - 48)) inner text) text bytes rest → StringBody inner (92 ∷ a ∷ text) bytes rest
  two : (inner a b : ℕ) (bytes rest : List ℕ) → is_octal a ≡ true → is_octal b ≡ true →
      Finds (walk (Two (8 * (a - 48) + (b - 48))) inner text) text bytes rest →
      StringBody inner (92 ∷ a ∷ b ∷ text) bytes rest

told_end : Told []
unfolding walk
told_end = record {
  normal = λ inner bytes rest f. absurd (false≢true f.closed);
  return = λ inner bytes rest f. absurd (false≢true f.closed);
  escape = λ inner bytes rest f. absurd (false≢true f.closed);
  one = λ inner a bytes rest ao f. absurd (false≢true f.closed);
  two = λ inner a b bytes rest ao bo f. absurd (false≢true f.closed);
}

closes_told : (inner : ℕ) (cs bytes rest : List ℕ) → Told cs →
    Finds (walk Normal inner (41 ∷ cs)) (41 ∷ cs) bytes rest → StringBody inner (41 ∷ cs) bytes rest
unfolding walk
closes_told zero cs bytes rest t f = subst (λ (bs : List ℕ). StringBody 0 (41 ∷ cs) bs rest) f.meant
    (subst (λ (r : List ℕ). StringBody 0 (41 ∷ cs) [] r) f.left (Closes cs))
closes_told (suc inner) cs bytes rest t f =
    let g : Finds (gives 41 (one_more (walk Normal inner cs))) (41 ∷ cs) bytes rest =
    rw (open_suc inner, back_one inner) at f in
    ungiven (λ bs. StringBody (suc inner) (41 ∷ cs) bs rest) 41 (one_more (walk Normal inner cs)) (41 ∷ cs) bytes rest g
    (λ h. ClosesInner inner cs (walk Normal inner cs).bytes rest
    (t.normal inner (walk Normal inner cs).bytes rest
    (less 41 (walk Normal inner cs) cs (walk Normal inner cs).bytes rest h)))

opens_told : (inner : ℕ) (cs bytes rest : List ℕ) → Told cs → Finds (walk Normal inner (40 ∷ cs)) (40 ∷ cs) bytes rest →
    StringBody inner (40 ∷ cs) bytes rest
unfolding walk
opens_told inner cs bytes rest t f =
    let g : Finds (gives 40 (one_more (walk Normal (suc inner) cs))) (40 ∷ cs) bytes rest = rw (up_one inner) at f in
    let w = walk Normal (suc inner) cs in
    ungiven (λ bs. StringBody inner (40 ∷ cs) bs rest) 40 (one_more w) (40 ∷ cs) bytes rest g
    (λ h. OpensInner inner cs w.bytes rest (t.normal (suc inner) w.bytes rest (less 40 w cs w.bytes rest h)))

plain_is : (c : ℕ) → (c == 40) ≡ false → (c == 41) ≡ false → (c == 92) ≡ false → (c == 13) ≡ false → is_plain c ≡ true
unfolding is_plain
plain_is c a b d e = rw (a, b, d, e) refl

plain_told : (inner c : ℕ) (cs bytes rest : List ℕ) → Told cs → is_plain c ≡ true →
    Finds (walk Normal inner (c ∷ cs)) (c ∷ cs) bytes rest → StringBody inner (c ∷ cs) bytes rest
unfolding walk
plain_told inner c cs bytes rest t p f =
    let g : Finds (gives c (one_more (walk Normal inner cs))) (c ∷ cs) bytes rest = rw (plain_goes inner c p) at f in
    let w = walk Normal inner cs in
    ungiven (λ bs. StringBody inner (c ∷ cs) bs rest) c (one_more w) (c ∷ cs) bytes rest g
    (λ h. Plain inner c cs w.bytes rest p (t.normal inner w.bytes rest (less c w cs w.bytes rest h)))

return_told : (inner : ℕ) (cs bytes rest : List ℕ) → Told cs →
    Finds (walk Normal inner (13 ∷ cs)) (13 ∷ cs) bytes rest → StringBody inner (13 ∷ cs) bytes rest
unfolding walk
return_told inner cs bytes rest t f =
    let w = walk Return inner cs in
    ungiven (λ bs. StringBody inner (13 ∷ cs) bs rest) 10 (one_more w) (13 ∷ cs) bytes rest f
    (λ h. LineEnd inner cs w.bytes rest (t.return inner w.bytes rest (less 13 w cs w.bytes rest h)))

normal_told : (inner c : ℕ) (cs bytes rest : List ℕ) → Told cs →
    Finds (walk Normal inner (c ∷ cs)) (c ∷ cs) bytes rest → StringBody inner (c ∷ cs) bytes rest
unfolding walk
normal_told inner c cs bytes rest t f =
    by_bool (c == 40) (λ e. subst (λ (d : ℕ). Finds (walk Normal inner (d ∷ cs)) (d ∷ cs) bytes rest →
    StringBody inner (d ∷ cs) bytes rest) (sym (eqb-true c 40 e)) (opens_told inner cs bytes rest t) f) (λ e40.
    by_bool (c == 41) (λ e. subst (λ (d : ℕ). Finds (walk Normal inner (d ∷ cs)) (d ∷ cs) bytes rest →
    StringBody inner (d ∷ cs) bytes rest) (sym (eqb-true c 41 e)) (closes_told inner cs bytes rest t) f) (λ e41.
    by_bool (c == 92) (λ e. subst (λ (d : ℕ). Finds (walk Normal inner (d ∷ cs)) (d ∷ cs) bytes rest →
    StringBody inner (d ∷ cs) bytes rest) (sym (eqb-true c 92 e))
    (λ g. t.escape inner bytes rest (less 92 (walk Escape inner cs) cs bytes rest g)) f) (λ e92.
    by_bool (c == 13) (λ e. subst (λ (d : ℕ). Finds (walk Normal inner (d ∷ cs)) (d ∷ cs) bytes rest →
    StringBody inner (d ∷ cs) bytes rest) (sym (eqb-true c 13 e)) (return_told inner cs bytes rest t) f) (λ e13.
    plain_told inner c cs bytes rest t (plain_is c e40 e41 e92 e13) f))))

escaped_is : (c : ℕ) → is_octal c ≡ false → (c == 10) ≡ false → (c == 13) ≡ false → is_escaped c ≡ true
unfolding is_escaped
escaped_is c a b d = rw (a, b, d) refl

escape_told : (inner c : ℕ) (cs bytes rest : List ℕ) → Told cs →
    Finds (walk Escape inner (c ∷ cs)) (c ∷ cs) bytes rest → StringBody inner (92 ∷ c ∷ cs) bytes rest
unfolding walk
escape_told inner c cs bytes rest t f =
    by_bool (is_octal c) (λ e. let g : Finds (one_more (walk (One (c - 48)) inner cs)) (c ∷ cs) bytes rest =
    rw e at f in t.one inner c bytes rest e (less c (walk (One (c - 48)) inner cs) cs bytes rest g)) (λ eo.
    by_bool (c == 10) (λ e. let g : Finds (one_more (walk Normal inner cs)) (c ∷ cs) bytes rest = rw (eo, e) at f in
    subst (λ (d : ℕ). StringBody inner (92 ∷ d ∷ cs) bytes rest) (sym (eqb-true c 10 e))
    (DropsLine inner cs bytes rest (t.normal inner bytes rest (less c (walk Normal inner cs) cs bytes rest g))))
    (λ e10.
    by_bool (c == 13) (λ e. let g : Finds (one_more (walk Return inner cs)) (c ∷ cs) bytes rest =
    rw (eo, e10, e) at f in
    subst (λ (d : ℕ). StringBody inner (92 ∷ d ∷ cs) bytes rest) (sym (eqb-true c 13 e))
    (DropsReturn inner cs bytes rest (t.return inner bytes rest (less c (walk Return inner cs) cs bytes rest g))))
    (λ e13.
    let g : Finds (gives (escaped c) (one_more (walk Normal inner cs))) (c ∷ cs) bytes rest = rw (eo, e10, e13) at f in
    let w = walk Normal inner cs in
    ungiven (λ bs. StringBody inner (92 ∷ c ∷ cs) bs rest) (escaped c) (one_more w) (c ∷ cs) bytes rest g
    (λ h. Escaped inner c cs w.bytes rest (escaped_is c eo e10 e13)
    (t.normal inner w.bytes rest (less c w cs w.bytes rest h))))))

one_told : (inner a c : ℕ) (cs bytes rest : List ℕ) → Told cs → is_octal a ≡ true →
    Finds (walk (One (a - 48)) inner (c ∷ cs)) (c ∷ cs) bytes rest → StringBody inner (92 ∷ a ∷ c ∷ cs) bytes rest
unfolding walk
one_told inner a c cs bytes rest t ao f =
    by_bool (is_octal c)
    (λ e. let w = walk (Two (8 * (a - 48) + (c - 48))) inner cs in let g : Finds (one_more w) (c ∷ cs) bytes rest =
    rw e at f in t.two inner a c bytes rest ao e (less c w cs bytes rest g))
    (λ e. let w = walk Normal inner (c ∷ cs) in let g : Finds (gives (a - 48) w) (c ∷ cs) bytes rest = rw e at f in
    ungiven (λ bs. StringBody inner (92 ∷ a ∷ c ∷ cs) bs rest) (a - 48) w (c ∷ cs) bytes rest g
    (λ h. OneOctal inner a (c ∷ cs) w.bytes rest ao e (normal_told inner c cs w.bytes rest t h)))

two_told : (inner a b c : ℕ) (cs bytes rest : List ℕ) → Told cs → is_octal a ≡ true → is_octal b ≡ true →
    Finds (walk (Two (8 * (a - 48) + (b - 48))) inner (c ∷ cs)) (c ∷ cs) bytes rest →
    StringBody inner (92 ∷ a ∷ b ∷ c ∷ cs) bytes rest
unfolding walk
two_told inner a b c cs bytes rest t ao bo f =
    by_bool (is_octal c)
    (λ e. let w = walk Normal inner cs in let v = (8 * (8 * (a - 48) + (b - 48)) + (c - 48)) % 256 in
    let g : Finds (gives v (one_more w)) (c ∷ cs) bytes rest = rw e at f in
    ungiven (λ bs. StringBody inner (92 ∷ a ∷ b ∷ c ∷ cs) bs rest) v (one_more w) (c ∷ cs) bytes rest g
    (λ h. ThreeOctals inner a b c cs w.bytes rest ao bo e (t.normal inner w.bytes rest (less c w cs w.bytes rest h))))
    (λ e. let w = walk Normal inner (c ∷ cs) in let v = 8 * (a - 48) + (b - 48) in
    let g : Finds (gives v w) (c ∷ cs) bytes rest = rw e at f in
    ungiven (λ bs. StringBody inner (92 ∷ a ∷ b ∷ c ∷ cs) bs rest) v w (c ∷ cs) bytes rest g
    (λ h. TwoOctals inner a b (c ∷ cs) w.bytes rest ao bo e (normal_told inner c cs w.bytes rest t h)))

return_here : (inner c : ℕ) (cs bytes rest : List ℕ) → Told cs →
    Finds (walk Return inner (c ∷ cs)) (c ∷ cs) bytes rest → StringBody inner (after_return (c ∷ cs)) bytes rest
unfolding walk after_return
return_here inner c cs bytes rest t f =
    by_bool (c == 10)
    (λ e. let g : Finds (one_more (walk Normal inner cs)) (c ∷ cs) bytes rest = rw e at f in
    rw e (t.normal inner bytes rest (less c (walk Normal inner cs) cs bytes rest g)))
    (λ e. let g : Finds (walk Normal inner (c ∷ cs)) (c ∷ cs) bytes rest = rw e at f in
    rw e (normal_told inner c cs bytes rest t g))

told_more : (c : ℕ) (cs : List ℕ) → Told cs → Told (c ∷ cs)
told_more c cs t = record {
  normal = λ inner bytes rest f. normal_told inner c cs bytes rest t f;
  return = λ inner bytes rest f. return_here inner c cs bytes rest t f;
  escape = λ inner bytes rest f. escape_told inner c cs bytes rest t f;
  one = λ inner a bytes rest ao f. one_told inner a c cs bytes rest t ao f;
  two = λ inner a b bytes rest ao bo f. two_told inner a b c cs bytes rest t ao bo f;
}

told : (text : List ℕ) → Told text
told [] = told_end
told (c ∷ cs) = told_more c cs (told cs)

-- a walk that ends finds a body
pub walk_body : (inner : ℕ) (text : List ℕ) → (walk Normal inner text).closed ≡ true →
    StringBody inner text (walk Normal inner text).bytes (drop (walk Normal inner text).used text)
walk_body inner text h = let t = told text in
    t.normal inner (walk Normal inner text).bytes (drop (walk Normal inner text).used text)
    (record { closed = h; meant = refl; left = refl })
