-- The bytes written so far, record by record.
use Rattle.std.proofs.Common.{arith, ◌≡◌, ℕ, List, [], ◌∷◌, ◌++◌, refl, ap, append_assoc}
use Rattle.std.proofs.lemmas.Grind.{common_steps, flat_map-append}
use Rattle.std.specs.List.{flat_map}
use Rattle.object65.specs.Record.{RawRecord}
use Rattle.object65.specs.Spelling.{record_bytes}

nil : (xs : List ℕ) → xs ++ [] ≡ xs
nil [] = refl
nil (x ∷ xs) = ap (λ ys. x ∷ ys) (nil xs)

regroup : (old h y a b c d e z : List ℕ) → ((((((((old ++ h) ++ y) ++ a) ++ b) ++ c) ++ d) ++ e) ++ z) ≡ old ++ (h ++ (y ++ (((((a ++ b) ++ c) ++ d) ++ e) ++ z)))
regroup old h y a b c d e z = simp append_assoc

spread : (y a b c d e z : List RawRecord) → flat_map record_bytes (y ++ (((((a ++ b) ++ c) ++ d) ++ e) ++ z)) ≡ flat_map record_bytes y ++ (((((flat_map record_bytes a ++ flat_map record_bytes b) ++ flat_map record_bytes c) ++ flat_map record_bytes d) ++ flat_map record_bytes e) ++ flat_map record_bytes z)
spread y a b c d e z = simp flat_map-append

-- the encoding of an object is the concatenation of its records, kind by kind
pub written_object : (old h oy o0 o1 o2 o3 o4 o5 new : List ℕ) (y a b c d e : List RawRecord) (z : RawRecord) → oy ≡ old ++ h → o0 ≡ oy ++ flat_map record_bytes y → o1 ≡ o0 ++ flat_map record_bytes a → o2 ≡ o1 ++ flat_map record_bytes b → o3 ≡ o2 ++ flat_map record_bytes c → o4 ≡ o3 ++ flat_map record_bytes d → o5 ≡ o4 ++ flat_map record_bytes e → new ≡ o5 ++ record_bytes z → new ≡ old ++ (h ++ flat_map record_bytes (y ++ (((((a ++ b) ++ c) ++ d) ++ e) ++ z ∷ [])))
written_object old h oy o0 o1 o2 o3 o4 o5 new y a b c d e z py p0 p1 p2 p3 p4 p5 last = grind (arith, common_steps, regroup, nil, spread)
