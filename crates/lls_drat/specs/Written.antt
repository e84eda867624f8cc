-- What lemmas are written as, in either form.
use Rattle.std.specs.Prelude.{ℕ, zero, suc, ◌+◌, ◌*◌, ◌/◌, ◌%◌, ℤ, pos, negsuc, Bool, nat_lt, List, [], ◌∷◌, ◌++◌, None, codes, if◌then◌else◌}
use Rattle.std.specs.List.{flat_map}
use Rattle.std.specs.Fmt.{signed_decimal}
use Rattle.lls_lit.specs.Formula.{is_within}
use Rattle.lls_lit.specs.declared.var.TheConstants.Var.{MOST}
use Rattle.lls_drat.specs.declared.form.Form.{Form}
use Rattle.lls_drat.specs.declared.form.Form.TheVariants.{Text, Binary}
use Rattle.lls_drat.specs.declared.kind.Kind.{Kind}
use Rattle.lls_drat.specs.declared.kind.Kind.TheVariants.{Addition, Deletion}
use Rattle.lls_drat.specs.Form.{end_byte}
use Rattle.lls_drat.specs.Lemma.{Lemma, NumberedLemma}
use Rattle.lls_drat.specs.Proof.{Proof}

-- a line: d where it deletes, the literals, each with a blank behind it, 0 and LF
abbrev pub kind_text : Kind → List ℕ
kind_text Addition = []
kind_text Deletion = codes "d "

abbrev pub lemma_line : Lemma → List ℕ
lemma_line lemma = kind_text lemma.kind ++ (flat_map (λ l. signed_decimal l ++ codes " ") lemma.lits ++ codes "0")

-- a number in as many bytes as it needs, up to so many: the lowest seven bits first, and the top bit where others follow
abbrev pub number_bytes : ℕ → ℕ → List ℕ
number_bytes zero n = []
number_bytes (suc most) n = if nat_lt n 128 then n ∷ [] else (n % 128 + 128) ∷ number_bytes most (n / 128)

-- v is written as 2v, and -v as 2v + 1
abbrev pub code_of : ℤ → ℕ
code_of (pos n) = 2 * n
code_of (negsuc n) = 2 * (n + 1) + 1

-- no literal needs more than four bytes
abbrev pub literal_bytes : ℤ → List ℕ
literal_bytes l = number_bytes 4 (code_of l)

abbrev pub kind_byte : Kind → ℕ
kind_byte Addition = 97
kind_byte Deletion = 100

-- a or d, and the literals
abbrev pub lemma_bytes : Lemma → List ℕ
lemma_bytes lemma = kind_byte lemma.kind ∷ flat_map literal_bytes lemma.lits

abbrev pub body : Form → Lemma → List ℕ
body Text lemma = lemma_line lemma
body Binary lemma = lemma_bytes lemma

-- a lemma, and what ends it
abbrev pub written : Form → Lemma → List ℕ
written form lemma = body form lemma ++ end_byte form ∷ []

-- of literals alone
abbrev pub has_literals : Lemma → Bool
has_literals lemma = is_within MOST lemma.lits

-- lemmas, behind so many others
abbrev pub numbered : ℕ → List Lemma → List NumberedLemma
numbered count [] = []
numbered count (lemma ∷ lemmas) = record { number = count + 1; lemma = lemma } ∷ numbered (count + 1) lemmas

abbrev pub all_lemmas : List Lemma → Proof
all_lemmas lemmas = record { lemmas = numbered 0 lemmas; fault = None }

abbrev pub is_byte : ℕ → Bool
is_byte b = nat_lt b 256
