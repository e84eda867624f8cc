-- Which files differ after a file was written, whole or in part.
use Rattle.std.proofs.Common.{◌≡◌, ◌≢◌, ℕ, List, [], ◌∷◌, ◌++◌, All, cond, Option, None, Some, refl, ap, subst, ◌∙◌, take}
use Rattle.std.proofs.lemmas.Cmp.{nat_list_cmp_total}
use Rattle.std.proofs.lemmas.List.Elements.{All-nil, All-cons, All-head, All-tail}
use Rattle.std.specs.FinMap.{get-insert}
use Rattle.std.specs.FinMap as map
use Rattle.std.specs.Option.{option_map}
use Rattle.lls_base.specs.Shelf.{Files}
use Rattle.lls_base.proofs.FileMaps.{same_name-false}
use Rattle.lls_answers.specs.declared.answer_file.AnswerFile.{AnswerFile}
use Rattle.lls_cli.specs.declared.fault.Fault.{Fault}
use Rattle.lls_cli.specs.declared.fault.Fault.TheVariants as faults
use Rattle.lls_cli.specs.declared.fault.OutsideFault.TheVariants as outside
use Rattle.lls_cli.specs.Ends.{LeavesPart}
use Rattle.lls_cli.specs.Claims.{ChangesOnly}

pub changes_none : (outputs : List (List ℕ)) (before after : Option Files) → after ≡ before → ChangesOnly outputs before after
changes_none [] before after same = same
changes_none (name ∷ names) before after same = λ other apart. ap (option_map (λ files. map.get files other)) same

-- what no change of some files leaves alone
abbrev pub Same : List ℕ → Option Files → Option Files → Type 0
Same other before after = option_map (λ files. map.get files other) after ≡ option_map (λ files. map.get files other) before

pub untouched : (outputs : List (List ℕ)) (before after : Option Files) (other : List ℕ) → ChangesOnly outputs before after → All (λ changed. other ≢ changed) outputs → Same other before after
untouched [] before after other same apart = ap (option_map (λ files. map.get files other)) same
untouched (name ∷ names) before after other only apart = only other apart

apart_parts : (other : List ℕ) (xs ys : List (List ℕ)) → All (λ changed. other ≢ changed) (xs ++ ys) → All (λ changed. other ≢ changed) xs × All (λ changed. other ≢ changed) ys
apart_parts other [] ys all = (All-nil (λ changed. other ≢ changed), all)
apart_parts other (x ∷ xs) ys all =
    let rest = apart_parts other xs ys (All-tail (λ changed. other ≢ changed) x (xs ++ ys) all) in
    (All-cons (λ changed. other ≢ changed) x xs (All-head (λ changed. other ≢ changed) x (xs ++ ys) all) rest.0, rest.1)

-- changes one after another
pub changes_both : (first second : List (List ℕ)) (before mid after : Option Files) → ChangesOnly first before mid → ChangesOnly second mid after → ChangesOnly (first ++ second) before after
changes_both [] second before mid after one two = subst (λ files. ChangesOnly second files after) one two
changes_both (name ∷ names) second before mid after one two = λ other apart.
    let parts = apart_parts other (name ∷ names) second apart in
    untouched second mid after other two parts.1 ∙ one other parts.0

get-insert_other : (files : Files) (name other bytes : List ℕ) → other ≢ name → map.get (map.insert files name bytes) other ≡ map.get files other
get-insert_other files name other bytes apart =
    get-insert nat_list_cmp_total files name bytes other ∙ ap (λ same. cond same (Some bytes) (map.get files other)) (same_name-false other name apart)

found_other : (name other bytes : List ℕ) (before : Option Files) → other ≢ name
    → option_map (λ files. map.get files other) (option_map (λ files. map.insert files name bytes) before) ≡ option_map (λ files. map.get files other) before
found_other name other bytes None apart = refl
found_other name other bytes (Some files) apart = ap Some (get-insert_other files name other bytes apart)

-- other bytes under a name change the file of that name alone
pub inserted : (name bytes : List ℕ) (before after : Option Files) → after ≡ option_map (λ files. map.insert files name bytes) before → ChangesOnly (name ∷ []) before after
inserted name bytes before after is = λ other apart. ap (option_map (λ files. map.get files other)) is ∙ found_other name other bytes before (All-head (λ changed. other ≢ changed) name [] apart)

-- a file that wasn't written whole changed alone
pub part_changes : (fault : Fault) (file : AnswerFile) (before after : Option Files) → LeavesPart fault file before after → ChangesOnly (file.name ∷ []) before after
part_changes (faults.Outside outside.CreateFailed) file before after part = changes_none (file.name ∷ []) before after part
part_changes (faults.Outside outside.WriteFailed) file before after part = inserted file.name (take part.0 file.bytes) before after part.2
part_changes (faults.Outside outside.NoFile) file before after part = absurd part
part_changes (faults.Outside outside.OpenFailed) file before after part = absurd part
part_changes (faults.Outside outside.ReadFailed) file before after part = absurd part
part_changes (faults.Outside outside.OutFailed) file before after part = absurd part
part_changes (faults.Words error) file before after part = absurd part
part_changes (faults.Posed error) file before after part = absurd part
part_changes (faults.Demands error) file before after part = absurd part
part_changes (faults.Dimacs error) file before after part = absurd part
part_changes (faults.NotPlain t y x) file before after part = absurd part
part_changes (faults.Rle error) file before after part = absurd part
part_changes (faults.List error) file before after part = absurd part
part_changes (faults.Pictures error) file before after part = absurd part
part_changes (faults.TooLong limit) file before after part = absurd part
part_changes faults.Memory file before after part = absurd part
