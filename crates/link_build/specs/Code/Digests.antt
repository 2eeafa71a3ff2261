-- Words of the code alone: what a key keeps beside its profiles.
use Rattle.std.specs.Prelude.{◌≡◌, ℕ, List, IsTrue}
use Rattle.md5.specs.Md5.{md5}
use Rattle.icc_model.specs.Direct.{can_receive}
use Rattle.link_build.specs.Key.{LinkKeyValue}

-- a key whose target can receive, with the digests of both profiles
pub record IsKeyWith (source_digest target_digest : List ℕ) (key : LinkKeyValue) : Type 0 where
  pub receives : IsTrue (can_receive key.target key.intent)
  pub source : source_digest ≡ md5 key.source.bytes
  pub target : target_digest ≡ md5 key.target.bytes
