-- The lines on standard error that are asked for: the report and the sample page. Own rule: the texts are the program's
-- own; a digest is MD5 (RFC 1321), in lower case as there.
use Rattle.std.specs.Prelude.{ℕ, List, ◌++◌, codes}
use Rattle.std.specs.Fmt.{decimal}
use Rattle.hex.specs.Hex.{encode_lower}

-- what a run counts: the pages written whole; of links the leases, the distinct keys, those built, those evicted and
-- those that stay; and the profiles of the words whose ID isn't the computed one
pub record CountsValue : Type 0 where
  pub pages : ℕ
  pub leases : ℕ
  pub keys : ℕ
  pub built : ℕ
  pub evicted : ℕ
  pub resident : ℕ
  pub stale : ℕ

-- a word of the line and its number
abbrev pub counted : List ℕ → ℕ → List ℕ
counted name n = name ++ decimal n

-- the line of a report
abbrev pub report_line_of : CountsValue → List ℕ
report_line_of c = counted (codes "render: pages ") c.pages
    ++ (counted (codes " leases ") c.leases
    ++ (counted (codes " keys ") c.keys
    ++ (counted (codes " built ") c.built
    ++ (counted (codes " evicted ") c.evicted
    ++ (counted (codes " resident ") c.resident
    ++ (counted (codes " stale ") c.stale ++ codes "\n"))))))

-- the line of a sample page: its number, how many bytes were written and their digest
abbrev pub sample_line_of : ℕ → ℕ → List ℕ → List ℕ
sample_line_of n bytes digest = counted (codes "render: sample ") n
    ++ (counted (codes " bytes ") bytes ++ (codes " md5 " ++ (encode_lower digest ++ codes "\n")))
