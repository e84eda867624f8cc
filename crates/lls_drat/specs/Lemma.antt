-- The lemmas of a proof.
use Rattle.std.specs.Prelude.{ℕ, ℤ, List}
use Rattle.lls_drat.specs.declared.kind.Kind.{Kind}

-- a clause that is added, or one that is deleted
pub record Lemma : Type 0 where
  pub kind : Kind
  pub lits : List ℤ

-- a lemma, and the line that writes it, or how many lemmas there are up to it
pub record NumberedLemma : Type 0 where
  pub number : ℕ
  pub lemma : Lemma
