-- Counting gives what the definition of a search file says.
use Rattle.std.proofs.Common.{◌≡◌, ◌≤◌, ℕ, ◌+◌, Bool, true, false, cond, List, [], ◌∷◌, ◌++◌, length, Option, None, Some, Result, Ok, Err, refl, sym, ap, ◌∙◌, arith, append_assoc, append-nil, length-append}
use Rattle.std.specs.Prelude.{sum_by}
use Rattle.std.specs.Option.{option_or}
use Rattle.std.proofs.lemmas.Bool.{ne_eqb}
use Rattle.std.proofs.lemmas.Grind.{flat_map-append}
use Rattle.std.proofs.lemmas.List.Sums.{sum_by_push}
use Rattle.lls_base.specs.Results.{and_then}
use Rattle.lls_text.specs.Lines.{lines_of, is_blank_line, begins_with}
use Rattle.lls_search_file.specs.declared.posed_fault.PosedFault.{PosedFault}
use Rattle.lls_search_file.specs.declared.shape.Shape.{Shape}
use Rattle.lls_search_file.specs.Posed.{PosedFile}
use Rattle.lls_search_file.specs.Words.{Word, row_of}
use Rattle.lls_search_file.specs.Reading.{hash, Rows, no_rows, joined, all_rows, unless_fault, too_many, ragged, too_high, too_low, row_faults, row_added, generations_ended, line_read, lines_read, file_read, end_read, posed_of}
use Rattle.lls_search_file.specs.Counted as counts
use Rattle.lls_search_file.specs.Counted.{Counts, no_shape, row_counted, end_counted, with_end, with_words, line_taken, lines_taken, at_end, file_of}

-- the length of the first of lists, where there is one
abbrev first_length : {X : Type 0} → List (List X) → Option ℕ
first_length [] = None
first_length (first ∷ rest) = Some (length first)

-- the first of lists, where there is one, has an element
abbrev IsFilled : {X : Type 0} → List (List X) → Type 0
IsFilled [] = Unit {0}
IsFilled (first ∷ rest) = 1 ≤ length first

-- what is counted of rows
abbrev counts_in : Rows → Counts
counts_in rows = record {
  shape = record {
    width = first_length (all_rows rows);
    height = first_length rows.ended;
    ended = length rows.ended;
    rows = length rows.begun;
    cells = sum_by length (all_rows rows);
  };
  words = joined (all_rows rows);
}

-- a result, its value counted
abbrev counted : Result Rows PosedFault → Result Counts PosedFault
counted read = and_then read (λ rows. Ok (counts_in rows))

-- the value where there is no fault, seen by a view
unless_fault-seen : {X Y : Type 0} (faults : List (Option PosedFault)) (value : X) (view : X → Y)
    → and_then (unless_fault faults value) (λ value. Ok (view value)) ≡ unless_fault faults (view value)
unless_fault-seen [] value view = refl
unless_fault-seen (None ∷ faults) value view = unless_fault-seen faults value view
unless_fault-seen (Some fault ∷ faults) value view = refl

-- the faults of one more row by counts
too_many-is : (rows : Rows) → too_many rows.ended rows.begun ≡ counts.too_many (counts_in rows).shape
too_many-is rows = by_begun rows.begun
  where
    by_begun : (begun : List (List Word)) → too_many rows.ended begun ≡ counts.too_many (counts_in (record { ended = rows.ended; begun = begun })).shape
    by_begun [] = refl
    by_begun (row ∷ begun) = let some = ne_eqb (length (row ∷ begun)) 0 (λ same. absurd (omega (arith, same))) in rw some refl

ragged-is : (line : ℕ) (rows : List (List Word)) (row : List Word) → ragged line rows row ≡ counts.ragged line (length row) (first_length rows)
ragged-is line [] row = refl
ragged-is line (first ∷ rows) row = refl

too_high-is : (ended : List (List (List Word))) (begun : List (List Word)) → too_high ended begun ≡ counts.too_high (length begun) (length ended) (first_length ended)
too_high-is [] begun = refl
too_high-is (first ∷ later) begun = refl

too_low-is : (ended : List (List (List Word))) (begun : List (List Word)) → too_low ended begun ≡ counts.too_low (length begun) (length ended) (first_length ended)
too_low-is [] begun = refl
too_low-is (first ∷ later) begun = refl

row_faults-is : (line : ℕ) (rows : Rows) (row : List Word) → row_faults line rows row ≡ counts.row_faults line (length row) (counts_in rows).shape
row_faults-is line rows row =
    rw (
      too_many-is rows,
      ragged-is line (all_rows rows) row,
      too_high-is rows.ended rows.begun,
      sum_by_push length (all_rows rows) row,
    ) refl

-- one more list behind others
first_length-push : {X : Type 0} (lists : List (List X)) (list : List X) → first_length (lists ++ list ∷ []) ≡ option_or (first_length lists) (Some (length list))
first_length-push [] list = refl
first_length-push (first ∷ rest) list = refl

joined-push : {X : Type 0} (lists : List (List X)) (list : List X) → joined (lists ++ list ∷ []) ≡ joined lists ++ list
joined-push lists list = flat_map-append (λ list. list) lists (list ∷ []) ∙ ap (λ last. joined lists ++ last) (append-nil list)

-- what is counted with one more row
counts_in-push : (rows : Rows) (row : List Word)
    → counts_in (record { ended = rows.ended; begun = rows.begun ++ row ∷ [] })
    ≡ record { shape = row_counted (length row) (counts_in rows).shape; words = (counts_in rows).words ++ row }
counts_in-push rows row =
    let all = all_rows rows in
    let behind : joined rows.ended ++ (rows.begun ++ row ∷ []) ≡ all ++ row ∷ [] = sym (append_assoc (joined rows.ended) rows.begun (row ∷ [])) in
    let more : length (rows.begun ++ row ∷ []) ≡ length rows.begun + 1 = length-append rows.begun (row ∷ []) in
    rw (behind, first_length-push all row, more, sum_by_push length all row, joined-push all row) refl

-- one more row is counted
row_added-counted : (line : ℕ) (rows : Rows) (row : List Word) → counted (row_added line rows row) ≡ with_words line (counts_in rows) row
row_added-counted line rows row =
    let shape = (counts_in rows).shape in
    let more : Shape → Counts = λ shape. record { shape = shape; words = (counts_in rows).words ++ row } in
    unless_fault-seen (row_faults line rows row) (record { ended = rows.ended; begun = rows.begun ++ row ∷ [] }) counts_in
    ∙ (ap (λ value. unless_fault (row_faults line rows row) value) (counts_in-push rows row)
    ∙ (ap (λ faults. unless_fault faults (more (row_counted (length row) shape))) (row_faults-is line rows row)
    ∙ sym (unless_fault-seen (counts.row_faults line (length row) shape) (row_counted (length row) shape) more)))

-- what is counted with one more generation, which has ended
counts_in-ended : (ended : List (List (List Word))) (begun : List (List Word))
    → counts_in (record { ended = ended ++ begun ∷ []; begun = [] })
    ≡ record { shape = end_counted (counts_in (record { ended = ended; begun = begun })).shape; words = joined (joined ended ++ begun) }
counts_in-ended ended begun =
    let all : all_rows (record { ended = ended ++ begun ∷ []; begun = [] }) ≡ joined ended ++ begun = append-nil (joined (ended ++ begun ∷ [])) ∙ joined-push ended begun in
    let more : length (ended ++ begun ∷ []) ≡ length ended + 1 = length-append ended (begun ∷ []) in
    rw (all, first_length-push ended begun, more) refl

-- the end of a generation is counted
generations_ended-counted : (ended : List (List (List Word))) (begun : List (List Word))
    → and_then (generations_ended ended begun) (λ ended. Ok (counts_in (record { ended = ended; begun = [] })))
    ≡ and_then (with_end (counts_in (record { ended = ended; begun = begun })).shape) (λ shape. Ok (record { shape = shape; words = joined (joined ended ++ begun) }))
generations_ended-counted ended [] = refl
generations_ended-counted ended (row ∷ rows) =
    let begun = row ∷ rows in
    let shape = (counts_in (record { ended = ended; begun = begun })).shape in
    let open_rows = ne_eqb (length begun) 0 (λ same. absurd (omega (arith, same))) in
    let closed : List (List (List Word)) → Counts = λ ended. counts_in (record { ended = ended; begun = [] }) in
    let more : Shape → Counts = λ shape. record { shape = shape; words = joined (joined ended ++ begun) } in
    let end = end_counted shape in
    unless_fault-seen (too_low ended begun ∷ []) (ended ++ begun ∷ []) closed
    ∙ (ap (λ value. unless_fault (too_low ended begun ∷ []) value) (counts_in-ended ended begun)
    ∙ (ap (λ fault. unless_fault (fault ∷ []) (more end)) (too_low-is ended begun)
    ∙ (sym (unless_fault-seen (counts.too_low shape.rows shape.ended shape.height ∷ []) end more)
    ∙ ap (λ v. and_then (cond v (Ok shape) (unless_fault (counts.too_low shape.rows shape.ended shape.height ∷ []) end)) (λ shape. Ok (more shape))) (sym open_rows))))

-- the first generation that has ended has a row
abbrev IsFilledOnOk : Result Rows PosedFault → Type 0
IsFilledOnOk (Ok rows) = IsFilled rows.ended
IsFilledOnOk (Err fault) = Unit {0}

IsFilled-push : {X : Type 0} (lists : List (List X)) (list : List X) → 1 ≤ length list → IsFilled lists → IsFilled (lists ++ list ∷ [])
IsFilled-push [] list some filled = some
IsFilled-push (first ∷ rest) list some filled = filled

unless_fault-filled : (faults : List (Option PosedFault)) (rows : Rows) → IsFilled rows.ended → IsFilledOnOk (unless_fault faults rows)
unless_fault-filled [] rows filled = filled
unless_fault-filled (None ∷ faults) rows filled = unless_fault-filled faults rows filled
unless_fault-filled (Some fault ∷ faults) rows filled = tt

generations_ended-filled : (ended : List (List (List Word))) (begun : List (List Word)) → IsFilled ended
    → IsFilledOnOk (and_then (generations_ended ended begun) (λ ended. Ok (record { ended = ended; begun = [] })))
generations_ended-filled ended [] filled = filled
generations_ended-filled ended (row ∷ rows) filled =
    let more : IsFilled (ended ++ (row ∷ rows) ∷ []) = IsFilled-push ended (row ∷ rows) (omega arith) filled in
    elim (too_low ended (row ∷ rows)) as (λ o. IsFilledOnOk (and_then (unless_fault (o ∷ []) (ended ++ (row ∷ rows) ∷ [])) (λ ended. Ok (record { ended = ended; begun = [] })))) [
      | None ↦ more
      | Some fault ↦ tt
    ]

-- what is read is what is counted
record IsCounted (read : Result Rows PosedFault) (taken : Result Counts PosedFault) : Type 0 where
  same : counted read ≡ taken
  filled : IsFilledOnOk read

row_read-counted : (number : ℕ) (rows : Rows) → IsFilled rows.ended → (read : Result (List Word) PosedFault)
    → IsCounted (and_then read (row_added number rows)) (and_then read (with_words number (counts_in rows)))
row_read-counted number rows filled (Ok row) = record {
  same = row_added-counted number rows row;
  filled = unless_fault-filled (row_faults number rows row) (record { ended = rows.ended; begun = rows.begun ++ row ∷ [] }) filled;
}
row_read-counted number rows filled (Err fault) = record { same = refl; filled = tt }

IsCounted-cond : (b : Bool) (read other : Result Rows PosedFault) (taken beside : Result Counts PosedFault) → IsCounted read taken → IsCounted other beside
    → IsCounted (cond b read other) (cond b taken beside)
IsCounted-cond true read other taken beside one two = one
IsCounted-cond false read other taken beside one two = two

-- the end of a generation at a line
ended_read-counted : (rows : Rows) → IsFilled rows.ended
    → IsCounted (and_then (generations_ended rows.ended rows.begun) (λ ended. Ok (record { ended = ended; begun = [] })))
    (and_then (with_end (counts_in rows).shape) (λ shape. Ok (record { shape = shape; words = (counts_in rows).words })))
ended_read-counted rows filled = record {
  same = after (generations_ended rows.ended rows.begun) ∙ generations_ended-counted rows.ended rows.begun;
  filled = generations_ended-filled rows.ended rows.begun filled;
}
  where
    after : (read : Result (List (List (List Word))) PosedFault)
        → counted (and_then read (λ ended. Ok (record { ended = ended; begun = [] }))) ≡ and_then read (λ ended. Ok (counts_in (record { ended = ended; begun = [] })))
    after (Ok ended) = refl
    after (Err fault) = refl

-- one more line is counted
line_read-counted : (number : ℕ) (line : List ℕ) (rows : Rows) → IsFilled rows.ended → IsCounted (line_read number line rows) (line_taken number line (counts_in rows))
line_read-counted number line rows filled =
    IsCounted-cond (begins_with hash line) _ _ _ _ (record { same = refl; filled = filled })
    (IsCounted-cond (is_blank_line line) _ _ _ _ (ended_read-counted rows filled) (row_read-counted number rows filled (row_of number line)))

-- what comes after what is counted
IsCounted-and_then : (read : Result Rows PosedFault) (taken : Result Counts PosedFault) (more : Rows → Result Rows PosedFault) (after : Counts → Result Counts PosedFault)
    → IsCounted read taken → ((rows : Rows) → IsFilled rows.ended → IsCounted (more rows) (after (counts_in rows))) → IsCounted (and_then read more) (and_then taken after)
IsCounted-and_then (Ok rows) taken more after is step = record {
  same = (step rows is.filled).same ∙ ap (λ t. and_then t after) is.same;
  filled = (step rows is.filled).filled;
}
IsCounted-and_then (Err fault) taken more after is step = record { same = ap (λ t. and_then t after) is.same; filled = tt }

lines_read-counted : (lines : List (List ℕ)) (number : ℕ) (rows : Rows) → IsFilled rows.ended → IsCounted (lines_read number lines rows) (lines_taken number lines (counts_in rows))
lines_read-counted [] number rows filled = record { same = refl; filled = filled }
lines_read-counted (line ∷ lines) number rows filled =
    IsCounted-and_then (line_read number line rows) (line_taken number line (counts_in rows)) (lines_read (number + 1) lines) (lines_taken (number + 1) lines)
    (line_read-counted number line rows filled) (λ rows filled. lines_read-counted lines (number + 1) rows filled)

-- the file of counted rows, where no generation goes on
abbrev file_counted : Counts → Result PosedFile PosedFault
file_counted counts = file_of counts.shape.width counts.shape.height counts.shape.ended counts.words

file_read-counted : (ended : List (List (List Word))) → IsFilled ended → file_read ended ≡ file_counted (counts_in (record { ended = ended; begun = [] }))
file_read-counted [] filled = refl
file_read-counted ([] ∷ later) filled = absurd (omega (arith, filled))
file_read-counted ((row ∷ rows) ∷ later) filled =
    ap (λ all. file_of (Some (length row)) (Some (length (row ∷ rows))) (length ((row ∷ rows) ∷ later)) (joined all)) (sym (append-nil (joined ((row ∷ rows) ∷ later))))

-- the end of the text is counted
end_read-counted : (rows : Rows) → IsFilled rows.ended → end_read rows ≡ at_end (counts_in rows)
end_read-counted rows filled =
    let words = joined (all_rows rows) in
    generations_read (generations_ended rows.ended rows.begun) (generations_ended-filled rows.ended rows.begun filled) ∙
    (ap (λ read. and_then read file_counted) (generations_ended-counted rows.ended rows.begun) ∙
    sizes_counted words (with_end (counts_in rows).shape))
  where
    generations_read : (read : Result (List (List (List Word))) PosedFault) → IsFilledOnOk (and_then read (λ ended. Ok (record { ended = ended; begun = [] })))
        → and_then read file_read ≡ and_then (and_then read (λ ended. Ok (counts_in (record { ended = ended; begun = [] })))) file_counted
    generations_read (Ok ended) filled = file_read-counted ended filled
    generations_read (Err fault) filled = refl

    sizes_counted : (words : List Word) (read : Result Shape PosedFault)
        → and_then (and_then read (λ shape. Ok (record { shape = shape; words = words }))) file_counted ≡ and_then read (λ shape. file_counted (record { shape = shape; words = words }))
    sizes_counted words (Ok shape) = refl
    sizes_counted words (Err fault) = refl

-- counting reads what the definition says
pub posed_of-counted : (bytes : List ℕ) → posed_of bytes ≡ and_then (lines_taken 1 (lines_of bytes) (record { shape = no_shape; words = [] })) at_end
unfolding posed_of
posed_of-counted bytes = whole (lines_read 1 (lines_of bytes) no_rows) _ (lines_read-counted (lines_of bytes) 1 no_rows tt)
  where
    whole : (read : Result Rows PosedFault) (taken : Result Counts PosedFault) → IsCounted read taken → and_then read end_read ≡ and_then taken at_end
    whole (Ok rows) taken is = end_read-counted rows is.filled ∙ ap (λ t. and_then t at_end) is.same
    whole (Err fault) taken is = ap (λ t. and_then t at_end) is.same
