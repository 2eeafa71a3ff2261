-- The drafts of all bands, mark by mark, and the page at the end.
use Rattle.std.proofs.Common.{◌≡◌, ℕ, zero, suc, ◌+◌, ◌<◌, ◌≤◌, Bool, true, false, leb, ltb, ◌&&◌, ◌⊎◌, List, [], ◌∷◌}
use Rattle.std.proofs.Common.{◌++◌, length}
use Rattle.std.proofs.Common.{get_or, take, replicate, Result, Ok, Err, refl, sym, ap, ◌∙◌, subst, inl, inr, map}
use Rattle.std.proofs.Common.{arith, length-append}
use Rattle.std.specs.Prelude.{slice_set, OnOk, IfOk}
use Rattle.std.specs.List.{flat_map, range_with_len, AllByRecursion}
use Rattle.std.proofs.lemmas.Bool.{cases_Bool, and_parts, and_from, and_left, and_right, leb-true, ltb-true, le-leb}
use Rattle.std.proofs.lemmas.Bool.{lt-ltb}
use Rattle.std.proofs.lemmas.Bool.{le-ltb, lt-leb, false≢true, false_from_ne_true, cases_order, cases_lt}
use Rattle.std.proofs.lemmas.List.{append-nil, get_or-replicate, length-replicate, get_or-set_same, get_or-set_other}
use Rattle.std.proofs.lemmas.List.{length-set, length-map, get_or-map, get_or_default, take_more, take_all}
use Rattle.std.proofs.lemmas.List.{length_push, get_or_push, get_or_append_left, map_push}
use Rattle.std.proofs.lemmas.List.Concat.{flat_map-append}
use Rattle.std.proofs.lemmas.List.FromFn.{fill_by_all}
use Rattle.page_model.specs.Marking.{MarkValue, PaintValue, Flatly, Pictured, Masked}
use Rattle.page_model.specs.Image.{ImageValue}
use Rattle.page_model.specs.Page.{PageValue}
use Rattle.page_model.specs.Pages.{band_count}
use Rattle.page_model.specs.declared.page.Depth.TheVariants.{Eight}
use Rattle.list_codec.specs.Command.{IsCmd}
use Rattle.list_codec.specs.Spelling.{cmd_bytes}
use Rattle.band_writer.specs.Bands.{placed_at, images_of, mark_images, paint_images, meets}
use Rattle.band_writer.specs.Listing.{change_cmds, painting_cmd, spelled}
use Rattle.band_writer.specs.Parts.{PagePartsValue, BandListValue, BandListsValue, IsSplit, IsSuitedMark, band_list}
use Rattle.band_writer.specs.Parts.{band_cmds, band_needs}
use Rattle.band_writer.specs.Code.Drafts.{DraftValue, empty_draft, draft_after, IsDraft, IsAdded, AreNumbered}
use Rattle.band_writer.specs.Code.Working.{AreDrafts, IsUnderWay}
use Rattle.band_writer.specs.declared.splitting.Work.{Work}
use Rattle.band_writer.proofs.Held.{all_joined}
use Rattle.band_writer.proofs.Drafts.{empty_is_draft, draft_stays, draft_goes_on}

-- whether a number is one of from up to and without to
abbrev pub is_from_to : ℕ → ℕ → ℕ → Bool
is_from_to from to band = leb from band && ltb band to

-- the drafts at first
pub empty_drafts : (rows band_rows count : ℕ) → count ≡ band_count rows band_rows
    → AreDrafts rows band_rows [] (replicate count empty_draft)
empty_drafts rows band_rows count is = record {
  count = length-replicate count empty_draft ∙ is;
  each = λ band d inside. subst (λ draft. IsDraft (meets rows band_rows band) [] draft)
      (sym (get_or-replicate count band empty_draft d (omega (arith, inside, length-replicate count empty_draft))))
      (empty_is_draft (meets rows band_rows band));
}

-- no draft has the mark yet
pub added_none : (from : ℕ) (mark : MarkValue) (painted : List ℕ) (drafts : List DraftValue)
    → IsAdded (is_from_to from from) mark painted drafts drafts
added_none from mark painted drafts = record {
  count = refl;
  held = λ band d inside test. absurd (none from band test);
  commands = λ band d inside test. absurd (none from band test);
  left = λ band d test. refl;
}
  where
    none : (from band : ℕ) → is_from_to from from band ≡ true → ⊥
    none from band test =
        let parts = and_parts (leb from band) (ltb band from) test in
        omega (arith, leb-true from band parts.0, ltb-true band from parts.1)

-- a number of those before one that is another is one of those before it
before_last : (from to band : ℕ) → (band < to) ⊎ (to < band) → is_from_to from (to + 1) band ≡ true
    → is_from_to from to band ≡ true
before_last from to band (inl low) test =
    and_from (leb from band) (ltb band to) (and_parts (leb from band) (ltb band (to + 1)) test).0 (lt-ltb band to low)
before_last from to band (inr high) test =
    absurd (omega (arith, high, ltb-true band (to + 1) (and_parts (leb from band) (ltb band (to + 1)) test).1))

not_before : (from to band : ℕ) → is_from_to from (to + 1) band ≡ false → is_from_to from to band ≡ false
not_before from to band test = false_from_ne_true (is_from_to from to band) (λ held.
    let parts = and_parts (leb from band) (ltb band to) held in
    let low = ltb-true band to parts.1 in
    false≢true (sym test ∙ and_from (leb from band) (ltb band (to + 1)) parts.0 (lt-ltb band (to + 1) (omega
    (arith, low)))))

-- one more draft has it
pub added_more : (from to : ℕ) (mark : MarkValue) (painted : List ℕ) (old now new : List DraftValue)
    (draft : DraftValue)
    → from ≤ to → to < length now → IsAdded (is_from_to from to) mark painted old now
    → draft ≡ draft_after mark painted (get_or now to draft)
    → AllByRecursion IsCmd (change_cmds (get_or now to draft).told mark) → new ≡ slice_set now to draft
    → IsAdded (is_from_to from (to + 1)) mark painted old new
added_more from to mark painted old now new draft order inside so_far is changes put =
    let long : length new ≡ length now = ap (λ (ds : List DraftValue). length ds) put ∙ length-set now to draft in
    let before : (d : DraftValue) → get_or now to d ≡ get_or old to d =
    λ d. so_far.left to d (and_right (leb from to) (ltb to to) (le-ltb to to (omega arith))) in
    let other : (band : ℕ) (d : DraftValue) → (band < to) ⊎ (to < band) → get_or new band d ≡ get_or now band d =
    λ band d apart. ap (λ (ds : List DraftValue). get_or ds band d) put
    ∙ get_or-set_other now to band draft d (λ same. elim apart [
      | inl low ↦ omega
          (arith, same, low)
      | inr high ↦ omega (arith, same, high)
    ]) in
    let earlier : (band : ℕ) → (band < to) ⊎ (to < band) → is_from_to from (to + 1) band ≡ true
    → is_from_to from to band ≡ true =
    λ band apart test. before_last from to band apart test in
    let never : (band : ℕ) → is_from_to from (to + 1) band ≡ false → is_from_to from to band ≡ false =
    λ band test. not_before from to band test in
    let now_held : (band : ℕ) → band ≡ to → is_from_to from (to + 1) band ≡ true =
    λ band here. and_from (leb from band) (ltb band (to + 1)) (le-leb from band (omega (arith, here, order)))
    (lt-ltb band (to + 1) (omega (arith, here))) in
    record {
      count = long ∙ so_far.count;
      held = λ band d within test. elim (cases_order band to) [
        | inl here ↦ subst (λ k. get_or new k d ≡ draft_after mark painted (get_or old k d)) (sym here)
            (ap (λ (ds : List DraftValue). get_or ds to d) put ∙ get_or-set_same now to draft d inside ∙ is
            ∙ ap (λ b. draft_after mark painted b) (before draft ∙ get_or_default old to draft d (omega
            (arith, inside, so_far.count))))
        | inr apart ↦ other band d apart ∙ so_far.held band d within (earlier band apart test)
      ];
      commands = λ band d within test. elim (cases_order band to) [
        | inl here ↦ subst (λ k. AllByRecursion IsCmd (change_cmds (get_or old k d).told mark)) (sym here)
            (subst (λ b. AllByRecursion IsCmd (change_cmds b.told mark))
            (before draft ∙ get_or_default old to draft d (omega (arith, inside, so_far.count))) changes)
        | inr apart ↦ so_far.commands band d within (earlier band apart test)
      ];
      left = λ band d test. elim (cases_order band to) [
        | inl here ↦ absurd (false≢true (sym test ∙ now_held band here))
        | inr apart ↦ other band d apart ∙ so_far.left band d (never band test)
      ];
    }

made_list : ℕ → List ℕ → BandListValue
made_list band bytes = record { band = band; bytes = bytes }

-- the images of one more mark
pub images_more : (marks : List MarkValue) (mark : MarkValue)
    → images_of (marks ++ mark ∷ []) ≡ images_of marks ++ mark_images mark
unfolding images_of
images_more marks mark =
    flat_map-append mark_images marks (mark ∷ [])
    ∙ ap (λ is. flat_map mark_images marks ++ is) (append-nil (mark_images mark))

few_images : (paint : PaintValue) → length (paint_images paint) ≤ 1
few_images (Flatly ink) = omega arith
few_images (Pictured image) = omega arith
few_images (Masked image ink) = omega arith

-- there are at most as many images as marks
pub images_few : (marks : List MarkValue) → length (images_of marks) ≤ length marks
unfolding images_of
images_few [] = omega arith
images_few (mark ∷ marks) =
    omega (
      arith,
      length-append (mark_images mark)
          (flat_map mark_images marks),
      few_images mark.paint,
      images_few marks,
    )

-- the drafts after one more mark
pub drafts_go_on : (rows band_rows from to : ℕ) (marks : List MarkValue) (mark : MarkValue) (painted : List ℕ)
    (old new : List DraftValue) → AreDrafts rows band_rows marks old
    → ((band : ℕ) → meets rows band_rows band mark ≡ is_from_to from to band)
    → IsAdded (is_from_to from to) mark painted old new
    → IsCmd (painting_cmd (placed_at (length (images_of marks)) mark))
    → painted ≡ cmd_bytes (painting_cmd (placed_at (length (images_of marks)) mark))
    → AreDrafts rows band_rows (marks ++ mark ∷ []) new
drafts_go_on rows band_rows from to marks mark painted old new so_far bands added command spelling = record {
  count = added.count ∙ so_far.count;
  each = λ band d inside. elim (cases_Bool (is_from_to from to band)) [
    | inl held ↦ subst (λ draft. IsDraft (meets rows band_rows band) (marks ++ mark ∷ []) draft)
        (sym (added.held band d (omega (arith, inside, added.count)) held))
        (draft_goes_on (meets rows band_rows band) marks mark painted (get_or old band d) (bands band ∙ held)
        (so_far.each band d (omega (arith, inside, added.count))) command spelling
        (added.commands band d (omega (arith, inside, added.count)) held))
    | inr left ↦ subst (λ draft. IsDraft (meets rows band_rows band) (marks ++ mark ∷ []) draft)
        (sym (added.left band d left))
        (draft_stays (meets rows band_rows band) marks mark (get_or old band d) (bands band ∙ left)
        (so_far.each band d (omega (arith, inside, added.count))))
  ];
}

-- one more draft became a list
pub numbered_more : (drafts : List DraftValue) (lists new : List BandListValue) (draft : DraftValue)
    (list : BandListValue) → AreNumbered drafts lists → new ≡ lists ++ list ∷ []
    → list ≡ record { band = length lists; bytes = draft.list } → AreNumbered (drafts ++ draft ∷ []) new
unfolding made_list
numbered_more drafts lists new draft list so_far put is =
    let long : length new ≡ length lists + 1 = ap (λ (ls : List BandListValue). length ls) put
    ∙ length_push lists list in
    let more = length_push drafts draft in
    let count = so_far.count in
    record {
      count = omega (arith, long, more, count);
      each = λ band d l inside. elim (cases_lt band (length drafts)) [
        | inl before ↦
            ap (λ (ls : List BandListValue). get_or ls band l) put
            ∙ get_or_append_left lists (list ∷ []) l band (omega (arith, before, count))
            ∙ so_far.each band d l before
            ∙ ap (λ (x : DraftValue). made_list band x.list) (sym (get_or_append_left drafts
            (draft ∷ []) d band before))
        | inr after ↦
            let last : length drafts ≡ band = omega (arith, after, inside, more) in
            let there : length lists ≡ band = omega (arith, last, count) in
            ap (λ (ls : List BandListValue). get_or ls band l) put ∙ get_or_push lists list l band there ∙ is
            ∙ ap (λ k. made_list k draft.list) there
            ∙ ap (λ (x : DraftValue). made_list band x.list) (sym (get_or_push drafts draft d band last))
      ];
    }

-- the needs of one more draft
pub listed_more : (drafts : List DraftValue) (old new : List (List ℕ)) (draft : DraftValue) (sources : List ℕ)
    → old ≡ map (λ (d : DraftValue). d.needs) drafts → new ≡ old ++ sources ∷ [] → sources ≡ draft.needs
    → new ≡ map (λ (d : DraftValue). d.needs) (drafts ++ draft ∷ [])
listed_more drafts old new draft sources so_far put is =
    put ∙ ap (λ (all : List (List ℕ)). all ++ sources ∷ []) so_far
    ∙ ap (λ (one : List ℕ). map (λ (d : DraftValue). d.needs) drafts ++ one ∷ []) is
    ∙ sym (map_push (λ (d : DraftValue). d.needs) drafts draft)

-- the lists and the needs of the drafts of a whole page are those of its split
pub is_split : (page : PageValue) (band_rows : ℕ) (drafts : List DraftValue) (split : BandListsValue)
    → AreDrafts page.height band_rows page.marks drafts
    → split.parts ≡ record {
      width = page.width;
      height = page.height;
      band = band_rows;
      depth = Eight;
      images = images_of page.marks;
    } → AreNumbered drafts split.lists
    → split.needs ≡ map (λ (draft : DraftValue). draft.needs) drafts → AllByRecursion IsSuitedMark page.marks
    → IsSplit page band_rows split
unfolding made_list
is_split page band_rows drafts split are parts lists needs suited =
    let count : ℕ = band_count page.height band_rows in
    let needs_of : DraftValue → List ℕ = λ draft. draft.needs in
    record {
      parts = parts;
      lists = fill_by_all (band_list page band_rows) split.lists count (record { band = 0; bytes = [] })
          (lists.count ∙ are.count)
          (λ band inside. lists.each band empty_draft (record { band = 0; bytes = [] }) (omega
          (arith, inside, are.count))
          ∙ ap (λ b. made_list band b) (are.each band empty_draft (omega (arith, inside, are.count))).list);
      needs = needs ∙ fill_by_all (band_needs page band_rows) (map needs_of drafts) count []
          (length-map drafts needs_of ∙ are.count)
          (λ band inside. get_or-map needs_of drafts band empty_draft [] (omega (arith, inside, are.count))
          ∙ (are.each band empty_draft (omega (arith, inside, are.count))).needs);
      commands = λ band inside. (are.each band empty_draft (omega (arith, inside, are.count))).commands;
      suited = suited;
    }

-- no marks have no images
pub no_images : images_of [] ≡ []
unfolding images_of
no_images = refl

-- the page after one more mark
pub work_goes_on : {A E : Type 0} (result : Result A E) (rows band_rows from to place : ℕ) (marks : List MarkValue)
    (mark : MarkValue) (painted : List ℕ) (old new : Work) → IsUnderWay rows band_rows marks old
    → new.height ≡ old.height → new.band ≡ old.band
    → ((band : ℕ) → meets old.height old.band band mark ≡ is_from_to from to band)
    → IsAdded (is_from_to from to) mark painted old.drafts.items new.drafts.items
    → IsCmd (painting_cmd (placed_at place mark)) → painted ≡ cmd_bytes (painting_cmd (placed_at place mark))
    → place ≡ length old.images → OnOk result (new.images ≡ old.images ++ mark_images mark) → IsSuitedMark mark
    → OnOk result (IsUnderWay rows band_rows (marks ++ mark ∷ []) new)
work_goes_on (Err e) rows band_rows from to place marks mark painted old new so_far height band bands added command
    spelling is images suited = tt
work_goes_on (Ok done) rows band_rows from to place marks mark painted old new so_far height band bands added command
    spelling is images suited =
    let at : place ≡ length (images_of marks) = is ∙ ap (λ (all : List ImageValue). length all) so_far.images in
    record {
      page = height ∙ so_far.page;
      band = band ∙ so_far.band;
      drafts = drafts_go_on rows band_rows from to marks mark painted old.drafts.items new.drafts.items so_far.drafts
          (λ k. sym (ap (λ r. meets r old.band k mark) so_far.page ∙ ap (λ b. meets rows b k mark) so_far.band)
          ∙ bands k)
          added (subst (λ n. IsCmd (painting_cmd (placed_at n mark))) at command)
          (spelling ∙ ap (λ n. cmd_bytes (painting_cmd (placed_at n mark))) at);
      images = images ∙ ap (λ (all : List ImageValue). all ++ mark_images mark) so_far.images
          ∙ sym (images_more marks mark);
      suited = all_joined IsSuitedMark marks (mark ∷ []) so_far.suited (suited, tt);
    }

-- the marks up to one that was read are those before it and that one
pub mark_taken : (items marks : List MarkValue) (i : ℕ) (mark : MarkValue) → items ≡ marks → i < length items
    → mark ≡ get_or items i mark → take (i + 1) marks ≡ take i marks ++ mark ∷ []
mark_taken items marks i mark same inside is =
    let here : i < length marks = subst (λ (ms : List MarkValue). i < length ms) same inside in
    let at : get_or marks i mark ≡ mark = sym (is ∙ ap (λ (ms : List MarkValue). get_or ms i mark) same) in
    take_more marks i mark here ∙ ap (λ (m : MarkValue). take i marks ++ m ∷ []) at

-- what the bands of a page share, with some images
abbrev pub parts_of : PageValue → ℕ → List ImageValue → PagePartsValue
parts_of page band_rows images =
    record { width = page.width; height = page.height; band = band_rows; depth = Eight; images = images }

-- after the last mark
pub split_at_end : {E : Type 0} (result : Result BandListsValue E) (page : PageValue) (band_rows i : ℕ) (work : Work)
    (parts : PagePartsValue) → IsUnderWay page.height band_rows (take i page.marks) work → length page.marks ≤ i
    → parts ≡ parts_of page band_rows work.images → IfOk result (λ split. split.parts ≡ parts)
    → IfOk result (λ split. AreNumbered work.drafts.items split.lists)
    → IfOk result (λ split. split.needs ≡ map (λ (draft : DraftValue). draft.needs) work.drafts.items)
    → IfOk result (IsSplit page band_rows)
split_at_end (Err e) page band_rows i work parts so_far end are shared lists needs = tt
split_at_end (Ok split) page band_rows i work parts so_far end are shared lists needs =
    let all : take i page.marks ≡ page.marks = take_all i page.marks end in
    let whole : IsUnderWay page.height band_rows page.marks work =
    subst (λ (ms : List MarkValue). IsUnderWay page.height band_rows ms work) all so_far in
    is_split page band_rows work.drafts.items split whole.drafts
    (shared ∙ are ∙ ap (λ (all : List ImageValue). parts_of page band_rows all) whole.images) lists needs whole.suited
