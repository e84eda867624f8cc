-- What a link is seen as. It is kept as one more than the place of an edge in a table of two edges a clause, and no link as 0.
use Rattle.std.specs.Prelude.{ℕ, zero, suc, ◌/◌, ◌%◌, ◌==◌, ℤ, pos, Bool, true, false, List, [], ◌∷◌, Option, Some, None}
use Rattle.lls_arena.specs.declared.edges.Link.{Link}
use Rattle.lls_arena.specs.declared.edges.Edge.{Edge}
use Rattle.lls_arena.specs.declared.edges.Edges.{Edges}

abbrev pub linked : ℕ → Option ℕ
linked zero = None
linked (suc place) = Some (place / 2)

abbrev pub link_in : Link → Option ℕ
link_in link = linked link.after

abbrev pub second_named : ℕ → Bool
second_named zero = true
second_named (suc place) = place % 2 == 1

-- whether a link names the second edge of its clause
abbrev pub side_in : Link → Bool
side_in link = second_named link.after

-- the edges of each clause, and of how many there is room for
pub record EdgeTableState : Type 0 where
  pub pairs : List Edges
  pub room : ℕ

-- stands where there is no edge
abbrev pub no_edge : Edge
no_edge = record { next = record { after = 0 }; lit = pos 1 }

abbrev pub no_pair : Edges
no_pair = record { first = no_edge; second = no_edge }

-- edges that stand beside each other, two by two
abbrev pub pairs_in : List Edge → List Edges
pairs_in [] = []
pairs_in (first ∷ []) = []
pairs_in (first ∷ second ∷ rest) = record { first = first; second = second } ∷ pairs_in rest

-- one of two edges has another link
abbrev pub with_next : Bool → Link → Edges → Edges
with_next false next edges = record edges { first = record edges.first { next = next } }
with_next true next edges = record edges { second = record edges.second { next = next } }

-- one of two edges watches another literal
abbrev pub with_lit : Bool → ℤ → Edges → Edges
with_lit false lit edges = record edges { first = record edges.first { lit = lit } }
with_lit true lit edges = record edges { second = record edges.second { lit = lit } }
