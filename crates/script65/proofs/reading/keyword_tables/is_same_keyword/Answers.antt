use Rattle.std.specs.Bool.{one_answer}
use Rattle.std.proofs.lemmas.Slice.Eq.{bytes_eq-Decides}
use Rattle.script65.proofs.reading.keyword_tables.is_same_keyword.Goals as goal

pub returns : goal.returns
returns c = one_answer _ _ (rw c.as_bytes.ensures.value at c.eq_ignore_ascii_case.ensures.test) (bytes_eq-Decides _ _)
