-- Each step keeps the agreement of the seats with the entries.
use Rattle.std.proofs.Common.{◌≡◌, ◌≢◌, inl, inr, ℕ, Bool, true, false, sym, ap, ◌∙◌, Option, Some, None, is_some}
use Rattle.std.proofs.lemmas.Bool.{cases_eq}
use Rattle.cache_core.specs.Lookup.{is_free, is_using}
use Rattle.cache_core.specs.Sound.{SeatsAgree}
use Rattle.cache_core.proofs.Calls.{IsCall, put, put_here, put_else, put_cases, using_cases, using_busy, builder_uses}
use Rattle.cache_core.proofs.Calls.{holder_uses, busy_stays, apart}
use Rattle.cache_core.specs.declared.step.Phase.{Phase}
use Rattle.cache_core.specs.declared.step.Phase.TheVariants.{Idle, Building, Holding, WaitKey, WaitRoom}

-- a free seat is none that builds or holds
free_else : (phase : ℕ → Phase) (seat other : ℕ) → is_free (phase seat) ≡ true → is_free (phase other) ≡ false →
    other ≢ seat
free_else phase seat other f b e =
    let k : true ≡ false = sym f ∙ (ap (λ (s : ℕ). is_free (phase s)) (sym e) ∙ b) in cc

-- what a free seat may go on to: not to build, to hold what is ready, to wait for what is being built,
-- or for room where all places are used
pub record MayEnter (phase : ℕ → Phase) (ready : ℕ → Option Bool) (Full : Type 0) (p : Phase) : Type 0 where
  pub not_build : (q : ℕ) → p ≡ Building q → ⊥
  pub hold : (q : ℕ) → p ≡ Holding q → ready q ≡ Some true
  pub wait : (q : ℕ) → p ≡ WaitKey q → (u : ℕ) × (phase u ≡ Building q)
  pub full : p ≡ WaitRoom → Full
  pub used : p ≡ WaitRoom → (q : ℕ) → is_some (ready q) ≡ true → (u : ℕ) × (is_using q (phase u) ≡ true)

-- the seats still agree with the entries once a free seat is in a phase that it may enter
pub enters : (phase : ℕ → Phase) (ready : ℕ → Option Bool) (Full : Type 0) (seat : ℕ) (p : Phase) →
    SeatsAgree phase ready Full → is_free (phase seat) ≡ true → MayEnter phase ready Full p →
    SeatsAgree (put seat p phase) ready Full
enters phase ready Full seat p agreed free may =
    let stays : (u : ℕ) → is_free (phase u) ≡ false → put seat p phase u ≡ phase u =
    λ u b. put_else seat p phase u (free_else phase seat u free b) in
    record {
      unready = λ q h. (let w = agreed.unready q h in (w.0, stays w.0 (ap is_free w.1) ∙ w.1));
      alone = λ a b q h k. elim (put_cases seat p phase a (Building q) h) [
        | inl w ↦
            absurd (may.not_build q w.1)
        | inr w ↦ elim (put_cases seat p phase b (Building q) k) [
          | inl v ↦
              absurd (may.not_build q v.1)
          | inr v ↦ agreed.alone a b q w.1 v.1
        ]
      ];
      builds = λ a q h. elim (put_cases seat p phase a (Building q) h) [
        | inl w ↦ absurd (may.not_build q w.1)
        | inr w ↦
            agreed.builds a q w.1
      ];
      holds = λ a q h. elim (put_cases seat p phase a (Holding q) h) [
        | inl w ↦ may.hold q w.1
        | inr w ↦
            agreed.holds a q w.1
      ];
      waits = λ a q h. (let found : (u : ℕ) × (phase u ≡ Building q) =
          elim (put_cases seat p phase a (WaitKey q) h) [ inl w ↦ may.wait q w.1 | inr w ↦ agreed.waits a q w.1 ] in
          (found.0, stays found.0 (ap is_free found.1) ∙ found.1));
      full = λ a h. elim (put_cases seat p phase a WaitRoom h) [ inl w ↦ may.full w.1 | inr w ↦ agreed.full a w.1 ];
      used = λ a q h k. (let found : (u : ℕ) × (is_using q (phase u) ≡ true) =
          elim (put_cases seat p phase a WaitRoom h) [ inl w ↦ may.used w.1 q k | inr w ↦ agreed.used a q w.1 k ] in
          (found.0, ap (is_using q) (stays found.0 (using_busy q (phase found.0) found.1)) ∙ found.1));
    }

-- a free seat begins to build a new entry, where nobody waits for room
pub reserves : (phase : ℕ → Phase) (ready ready' : ℕ → Option Bool) (Full Full' : Type 0) (seat r : ℕ) →
    SeatsAgree phase ready Full → is_free (phase seat) ≡ true → ready r ≡ None → ready' r ≡ Some false →
    ((q : ℕ) → q ≢ r → ready' q ≡ ready q) → (Full → ⊥) → SeatsAgree (put seat (Building r) phase) ready' Full'
reserves phase ready ready' Full Full' seat r agreed free new here else room =
    let stays : (u : ℕ) → is_free (phase u) ≡ false → put seat (Building r) phase u ≡ phase u =
    λ u b. put_else seat (Building r) phase u (free_else phase seat u free b) in
    let other : (q : ℕ) (b : Bool) → ready q ≡ Some b → q ≢ r =
    λ q b h e. (let k : Some b ≡ None = sym h ∙ (ap ready e ∙ new) in cc) in
    let no_room : (a : ℕ) → put seat (Building r) phase a ≡ WaitRoom → ⊥ =
    λ a h. elim (put_cases seat (Building r) phase a WaitRoom h) [
      | inl w ↦
          (let k : Building r ≡ WaitRoom = w.1 in cc)
      | inr w ↦ room (agreed.full a w.1)
    ] in
    record {
      unready = λ q h. elim (cases_eq q r) [
        | inl e ↦
            (seat, put_here seat (Building r) phase ∙ ap Building (sym e))
        | inr n ↦
            (let w = agreed.unready q (sym (else q n) ∙ h) in (w.0, stays w.0 (ap is_free w.1) ∙ w.1))
      ];
      alone = λ a b q h k. elim (put_cases seat (Building r) phase a (Building q) h) [
        | inl w ↦
            elim (put_cases seat (Building r) phase b (Building q) k) [
              | inl v ↦ w.0 ∙ sym v.0
              | inr v ↦
                  absurd (other q false (agreed.builds b q v.1) (let e : r ≡ q = cc in sym e))
            ]
        | inr w ↦
            elim (put_cases seat (Building r) phase b (Building q) k) [
              | inl v ↦
                  absurd (other q false (agreed.builds a q w.1) (let e : r ≡ q = cc in sym e))
              | inr v ↦
                  agreed.alone a b q w.1 v.1
            ]
      ];
      builds = λ a q h. elim (put_cases seat (Building r) phase a (Building q) h) [
        | inl w ↦
            (let e : r ≡ q = cc in ap ready' (sym e) ∙ here)
        | inr w ↦
            (let k : ready q ≡ Some false = agreed.builds a q w.1 in else q (other q false k) ∙ k)
      ];
      holds = λ a q h. elim (put_cases seat (Building r) phase a (Holding q) h) [
        | inl w ↦
            (let k : Building r ≡ Holding q = w.1 in cc)
        | inr w ↦
            (let k : ready q ≡ Some true = agreed.holds a q w.1 in else q (other q true k) ∙ k)
      ];
      waits = λ a q h. elim (put_cases seat (Building r) phase a (WaitKey q) h) [
        | inl w ↦
            (let k : Building r ≡ WaitKey q = w.1 in cc)
        | inr w ↦
            (let v = agreed.waits a q w.1 in (v.0, stays v.0 (ap is_free v.1) ∙ v.1))
      ];
      full = λ a h. absurd (no_room a h);
      used = λ a q h k. absurd (no_room a h);
    }

-- the builder of an entry publishes it, and holds it
pub publishes : (f : Phase → Phase) (phase : ℕ → Phase) (ready ready' : ℕ → Option Bool) (Full Full' : Type 0)
    (seat r : ℕ) → IsCall f → ((x : Phase) → f x ≡ WaitKey r → ⊥) → SeatsAgree phase ready Full →
    phase seat ≡ Building r → ready' r ≡ Some true → ((q : ℕ) → q ≢ r → ready' q ≡ ready q) → (Full → Full') →
    SeatsAgree (put seat (Holding r) (λ t. f (phase t))) ready' Full'
publishes f phase ready ready' Full Full' seat r call none agreed builder here else full =
    let new : ℕ → Phase = put seat (Holding r) (λ t. f (phase t)) in
    let stays : (u : ℕ) → u ≢ seat → is_free (phase u) ≡ false → new u ≡ phase u =
    λ u n b. busy_stays f call seat (Holding r) phase u n b in
    let building : (a q : ℕ) → new a ≡ Building q → (a ≢ seat) × (phase a ≡ Building q) =
    λ a q h. elim (put_cases seat (Holding r) (λ t. f (phase t)) a (Building q) h) [
      | inl w ↦
          (let k : Holding r ≡ Building q = w.1 in cc)
      | inr w ↦ (w.0, call.building (phase a) q w.1)
    ] in
    let not_r : (a q : ℕ) → a ≢ seat → phase a ≡ Building q → q ≢ r =
    λ a q n h e. n (agreed.alone a seat r (h ∙ ap Building e) builder) in
    record {
      unready = λ q h. (let n : q ≢ r = (λ e. (let k : Some true ≡ Some false = sym here ∙ (ap ready' (sym e) ∙ h) in
          cc)) in let w = agreed.unready q (sym (else q n) ∙ h) in (
            w.0,
            stays w.0 (apart phase w.0 seat (Building q) (Building r) w.1 builder
                (λ e. (let k : q ≡ r = cc in n k))) (ap is_free w.1) ∙ w.1,
          ));
      alone = λ a b q h k. agreed.alone a b q (building a q h).1 (building b q k).1;
      builds = λ a q h. (let w = building a q h in else q (not_r a q w.0 w.1) ∙ agreed.builds a q w.1);
      holds = λ a q h. elim (put_cases seat (Holding r) (λ t. f (phase t)) a (Holding q) h) [
        | inl w ↦
            (let e : r ≡ q = cc in ap ready' (sym e) ∙ here)
        | inr w ↦
            (let k : ready q ≡ Some true = agreed.holds a q (call.holding (phase a) q w.1) in let n : q ≢ r =
            (λ e. (let v : Some true ≡ Some false = sym k ∙ (ap ready e ∙ agreed.builds seat r builder) in cc)) in
            else q n ∙ k)
      ];
      waits = λ a q h. elim (put_cases seat (Holding r) (λ t. f (phase t)) a (WaitKey q) h) [
        | inl w ↦
            (let k : Holding r ≡ WaitKey q = w.1 in cc)
        | inr w ↦
            (let n : q ≢ r = (λ e. none (phase a) (w.1 ∙ ap WaitKey e)) in let v =
            agreed.waits a q (call.key (phase a) q w.1) in (
              v.0,
              stays v.0 (apart phase v.0 seat (Building q) (Building r) v.1 builder
                  (λ e. (let k : q ≡ r = cc in n k))) (ap is_free v.1) ∙ v.1,
            ))
      ];
      full = λ a h. elim (put_cases seat (Holding r) (λ t. f (phase t)) a WaitRoom h) [
        | inl w ↦
            (let k : Holding r ≡ WaitRoom = w.1 in cc)
        | inr w ↦ full (agreed.full a (call.room (phase a) w.1))
      ];
      used = λ a q h k. elim (cases_eq q r) [
        | inl e ↦
            (seat, holder_uses q (new seat) (put_here seat (Holding r) (λ t. f (phase t)) ∙ ap Holding (sym e)))
        | inr n ↦
            elim (put_cases seat (Holding r) (λ t. f (phase t)) a WaitRoom h) [
              | inl w ↦
                  (let v : Holding r ≡ WaitRoom = w.1 in cc)
              | inr w ↦
                  (let v = agreed.used a q (call.room (phase a) w.1) (ap is_some (sym (else q n)) ∙ k) in
                  let busy : is_free (phase v.0) ≡ false = using_busy q (phase v.0) v.1 in let m : v.0 ≢ seat =
                  (λ e. elim (using_cases q (phase v.0) v.1) [
                    | inl u ↦
                        (let z : Building q ≡ Building r = sym u ∙ (ap phase e ∙ builder) in let y : q ≡ r = cc in n y)
                    | inr u ↦
                        (let z : Holding q ≡ Building r = sym u ∙ (ap phase e ∙ builder) in cc)
                  ]) in
                  (v.0, ap (is_using q) (stays v.0 m busy) ∙ v.1))
            ]
      ];
    }

-- the builder of an entry gives it up
pub withdraws : (f : Phase → Phase) (phase : ℕ → Phase) (ready ready' : ℕ → Option Bool) (Full Full' : Type 0)
    (seat r : ℕ) → IsCall f → ((x : Phase) → f x ≡ WaitKey r → ⊥) → ((x : Phase) → f x ≡ WaitRoom → ⊥) →
    SeatsAgree phase ready Full → phase seat ≡ Building r → ready' r ≡ None → ((q : ℕ) → q ≢ r → ready' q ≡ ready q) →
    SeatsAgree (put seat Idle (λ t. f (phase t))) ready' Full'
withdraws f phase ready ready' Full Full' seat r call none no_room agreed builder here else =
    let new : ℕ → Phase = put seat Idle (λ t. f (phase t)) in
    let stays : (u : ℕ) → u ≢ seat → is_free (phase u) ≡ false → new u ≡ phase u =
    λ u n b. busy_stays f call seat Idle phase u n b in
    let building : (a q : ℕ) → new a ≡ Building q → (a ≢ seat) × (phase a ≡ Building q) =
    λ a q h. elim (put_cases seat Idle (λ t. f (phase t)) a (Building q) h) [
      | inl w ↦
          (let k : Idle ≡ Building q = w.1 in cc)
      | inr w ↦ (w.0, call.building (phase a) q w.1)
    ] in
    let not_r : (a q : ℕ) → a ≢ seat → phase a ≡ Building q → q ≢ r =
    λ a q n h e. n (agreed.alone a seat r (h ∙ ap Building e) builder) in
    let room : (a : ℕ) → new a ≡ WaitRoom → ⊥ =
    λ a h. elim (put_cases seat Idle (λ t. f (phase t)) a WaitRoom h) [
      | inl w ↦
          (let k : Idle ≡ WaitRoom = w.1 in cc)
      | inr w ↦ no_room (phase a) w.1
    ] in
    record {
      unready = λ q h. (let n : q ≢ r = (λ e. (let k : None ≡ Some false = sym here ∙ (ap ready' (sym e) ∙ h) in cc)) in
          let w = agreed.unready q (sym (else q n) ∙ h) in (
            w.0,
            stays w.0 (apart phase w.0 seat (Building q) (Building r) w.1 builder
                (λ e. (let k : q ≡ r = cc in n k))) (ap is_free w.1) ∙ w.1,
          ));
      alone = λ a b q h k. agreed.alone a b q (building a q h).1 (building b q k).1;
      builds = λ a q h. (let w = building a q h in else q (not_r a q w.0 w.1) ∙ agreed.builds a q w.1);
      holds = λ a q h. elim (put_cases seat Idle (λ t. f (phase t)) a (Holding q) h) [
        | inl w ↦
            (let e : Idle ≡ Holding q = w.1 in cc)
        | inr w ↦
            (let k : ready q ≡ Some true = agreed.holds a q (call.holding (phase a) q w.1) in let n : q ≢ r =
            (λ e. (let v : Some true ≡ Some false = sym k ∙ (ap ready e ∙ agreed.builds seat r builder) in cc)) in
            else q n ∙ k)
      ];
      waits = λ a q h. elim (put_cases seat Idle (λ t. f (phase t)) a (WaitKey q) h) [
        | inl w ↦
            (let k : Idle ≡ WaitKey q = w.1 in cc)
        | inr w ↦
            (let n : q ≢ r = (λ e. none (phase a) (w.1 ∙ ap WaitKey e)) in let v =
            agreed.waits a q (call.key (phase a) q w.1) in (
              v.0,
              stays v.0 (apart phase v.0 seat (Building q) (Building r) v.1 builder
                  (λ e. (let k : q ≡ r = cc in n k))) (ap is_free v.1) ∙ v.1,
            ))
      ];
      full = λ a h. absurd (room a h);
      used = λ a q h k. absurd (room a h);
    }

-- a holder gives its lease back. Where somebody still waits for room, another seat holds the entry
pub releases : (f : Phase → Phase) (phase : ℕ → Phase) (ready : ℕ → Option Bool) (Full : Type 0) (seat r : ℕ) →
    IsCall f → ((x : Phase) → f x ≡ WaitRoom → (u : ℕ) × (u ≢ seat) × (phase u ≡ Holding r)) →
    SeatsAgree phase ready Full → phase seat ≡ Holding r → SeatsAgree (put seat Idle (λ t. f (phase t))) ready Full
releases f phase ready Full seat r call still agreed holder =
    let new : ℕ → Phase = put seat Idle (λ t. f (phase t)) in
    let stays : (u : ℕ) → u ≢ seat → is_free (phase u) ≡ false → new u ≡ phase u =
    λ u n b. busy_stays f call seat Idle phase u n b in
    let building : (a q : ℕ) → new a ≡ Building q → phase a ≡ Building q =
    λ a q h. elim (put_cases seat Idle (λ t. f (phase t)) a (Building q) h) [
      | inl w ↦
          (let k : Idle ≡ Building q = w.1 in cc)
      | inr w ↦ call.building (phase a) q w.1
    ] in
    let builder : (u q : ℕ) → phase u ≡ Building q → new u ≡ Building q =
    λ u q h. stays u (apart phase u seat (Building q) (Holding r) h holder (λ e. cc)) (ap is_free h) ∙ h in
    record {
      unready = λ q h. (let w = agreed.unready q h in (w.0, builder w.0 q w.1));
      alone = λ a b q h k. agreed.alone a b q (building a q h) (building b q k);
      builds = λ a q h. agreed.builds a q (building a q h);
      holds = λ a q h. elim (put_cases seat Idle (λ t. f (phase t)) a (Holding q) h) [
        | inl w ↦
            (let e : Idle ≡ Holding q = w.1 in cc)
        | inr w ↦ agreed.holds a q (call.holding (phase a) q w.1)
      ];
      waits = λ a q h. elim (put_cases seat Idle (λ t. f (phase t)) a (WaitKey q) h) [
        | inl w ↦
            (let k : Idle ≡ WaitKey q = w.1 in cc)
        | inr w ↦
            (let v = agreed.waits a q (call.key (phase a) q w.1) in (v.0, builder v.0 q v.1))
      ];
      full = λ a h. elim (put_cases seat Idle (λ t. f (phase t)) a WaitRoom h) [
        | inl w ↦
            (let k : Idle ≡ WaitRoom = w.1 in cc)
        | inr w ↦ agreed.full a (call.room (phase a) w.1)
      ];
      used = λ a q h k. elim (put_cases seat Idle (λ t. f (phase t)) a WaitRoom h) [
        | inl w ↦
            (let v : Idle ≡ WaitRoom = w.1 in cc)
        | inr w ↦
            elim (cases_eq q r) [
              | inl e ↦ (let v = still (phase a) w.1 in
                  (v.0, holder_uses q (new v.0) (stays v.0 v.1 (ap is_free v.2) ∙ (v.2 ∙ ap Holding (sym e)))))
              | inr n ↦
                  (let v = agreed.used a q (call.room (phase a) w.1) k in let m : v.0 ≢ seat =
                  (λ e. elim (using_cases q (phase v.0) v.1) [
                    | inl u ↦
                        (let z : Building q ≡ Holding r = sym u ∙ (ap phase e ∙ holder) in cc)
                    | inr u ↦
                        (let z : Holding q ≡ Holding r = sym u ∙ (ap phase e ∙ holder) in let y : q ≡ r = cc in n y)
                  ]) in
                  (v.0, ap (is_using q) (stays v.0 m (using_busy q (phase v.0) v.1)) ∙ v.1))
            ]
      ];
    }

-- an entry that nobody builds or holds goes, where nobody waits for room
pub evicts : (phase : ℕ → Phase) (ready ready' : ℕ → Option Bool) (Full Full' : Type 0) (r : ℕ) →
    SeatsAgree phase ready Full → ((u : ℕ) → is_using r (phase u) ≡ true → ⊥) → ((u : ℕ) → phase u ≡ WaitRoom → ⊥) →
    ready' r ≡ None → ((q : ℕ) → q ≢ r → ready' q ≡ ready q) → SeatsAgree phase ready' Full'
evicts phase ready ready' Full Full' r agreed unused no_room here else =
    record {
      unready = λ q h. (let n : q ≢ r = (λ e. (let k : None ≡ Some false = sym here ∙ (ap ready' (sym e) ∙ h) in cc)) in
          agreed.unready q (sym (else q n) ∙ h));
      alone = agreed.alone;
      builds = λ a q h. (let n : q ≢ r = (λ e. unused a (builder_uses r (phase a) (h ∙ ap Building e))) in else q n
          ∙ agreed.builds a q h);
      holds = λ a q h. (let n : q ≢ r = (λ e. unused a (holder_uses r (phase a) (h ∙ ap Holding e))) in else q n
          ∙ agreed.holds a q h);
      waits = agreed.waits;
      full = λ a h. absurd (no_room a h);
      used = λ a q h k. absurd (no_room a h);
    }
