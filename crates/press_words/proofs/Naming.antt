-- One more named profile.
use Rattle.std.proofs.Common.{◌≡◌, ◌++◌, ◌∷◌, ◌∙◌, ap, sym, subst, map, List, [], ℕ, Some}
use Rattle.std.proofs.lemmas.List.{map-append}
use Rattle.press_words.specs.declared.options.NamedFile.{NamedFile}
use Rattle.press_words.specs.Options.{name_next}
use Rattle.press_words.specs.Code.Seen.{seen_file}

-- a profile that a word names after these is one more of the list
pub named_more : (named lent after : List NamedFile) (file : NamedFile) (word : List ℕ) → lent ≡ named
    → Some (map seen_file lent ++ seen_file file ∷ []) ≡ name_next (Some (map seen_file lent)) word
    → after ≡ named ++ file ∷ [] → name_next (Some (map seen_file named)) word ≡ Some (map seen_file after)
named_more named lent after file word same step grew =
    sym (subst (λ xs. Some (map seen_file xs ++ seen_file file ∷ []) ≡ name_next (Some (map seen_file xs)) word)
    same step)
    ∙ ap Some (sym (map-append seen_file named (file ∷ [])) ∙ ap (map seen_file) (sym grew))
