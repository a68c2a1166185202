-- Files consist of bytes.
use Rattle.std.specs.Prelude.{◌≡◌, ℕ, List, Some}
use Rattle.std.specs.FinMap.{get}
use Rattle.base65.specs.Store.{Files, IsBytes}

-- each file consists of bytes
abbrev pub HaveOnlyBytes : Files → Type 0
HaveOnlyBytes m = (name bytes : List ℕ) → get m name ≡ Some bytes → IsBytes bytes
