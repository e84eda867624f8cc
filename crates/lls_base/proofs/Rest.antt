-- What is left of an input, read by read.
use Rattle.std.proofs.Common.{◌≡◌, ◌<◌, ◌≤◌, ◌+◌, ℕ, List, ◌++◌, Option, Some, None, Result, Ok, Err, IfSome, length, take, drop, refl, sym, ap, subst, ◌∙◌, append_assoc, arith, length-drop}
use Rattle.std.specs.Option.{option_map}
use Rattle.std.proofs.Math.Seq.{take-add}
use Rattle.std.proofs.lemmas.List.{take_all, drop-drop}
use Rattle.lls_base.specs.declared.sink.Failed.{Failed}
use Rattle.lls_base.specs.Shelf.{Contents, ReadsFront, after_read, known_files, known_target, known_rest}
use Rattle.lls_base.specs.Reading.{GrewByAll}

-- the bytes are the first n
pub record IsFront (n : ℕ) (bytes rest : List ℕ) : Type 0 where
  pub whole : bytes ≡ take n rest
  pub fits : n ≤ length rest

pub known_files-read : (told : Option Contents) (answer : Result ℕ Failed) → known_files (option_map (after_read answer) told) ≡ known_files told
known_files-read None answer = refl
known_files-read (Some c) (Ok n) = refl
known_files-read (Some c) (Err e) = refl

pub known_target-read : (told : Option Contents) (answer : Result ℕ Failed) → known_target (option_map (after_read answer) told) ≡ known_target told
known_target-read None answer = refl
known_target-read (Some c) (Ok n) = refl
known_target-read (Some c) (Err e) = refl

pub known_rest-read : (told : Option Contents) (n : ℕ) → known_rest (option_map (after_read (Ok n)) told) ≡ option_map (drop n) (known_rest told)
known_rest-read None n = refl
known_rest-read (Some c) n = refl

-- what a read says of the input that it met
pub front-read : (told : Option Contents) (rest : Option (List ℕ)) (n k : ℕ) (buffer : List ℕ) → known_rest told ≡ option_map (drop n) rest
    → IfSome told (λ c. IfSome c.rest (λ left. ReadsFront k left buffer)) → IfSome (option_map (drop n) rest) (λ left. ReadsFront k left buffer)
front-read None rest n k buffer same front = let P : Option (List ℕ) → Type 0 = λ rest. IfSome rest (λ left. ReadsFront k left buffer) in subst P same tt
front-read (Some c) rest n k buffer same front = let P : Option (List ℕ) → Type 0 = λ rest. IfSome rest (λ left. ReadsFront k left buffer) in subst P same front

pub append-grew : (before items after bytes piece : List ℕ) → items ≡ before ++ bytes → after ≡ items ++ piece → after ≡ before ++ (bytes ++ piece)
append-grew before items after bytes piece first next = next ∙ ap (λ list. list ++ piece) first ∙ append_assoc before bytes piece

pub option_map-drop : (rest : Option (List ℕ)) (n k : ℕ) → option_map (drop k) (option_map (drop n) rest) ≡ option_map (drop (n + k)) rest
option_map-drop None n k = refl
option_map-drop (Some bytes) n k = ap Some (drop-drop k n bytes)

-- a read took k bytes more
pub IsFront-more : (rest : Option (List ℕ)) (n k : ℕ) (bytes buffer : List ℕ) → IfSome rest (IsFront n bytes)
    → IfSome (option_map (drop n) rest) (λ left. ReadsFront k left buffer) → IfSome rest (IsFront (n + k) (bytes ++ take k buffer))
IsFront-more None n k bytes buffer first next = tt
IsFront-more (Some rest) n k bytes buffer first next = record {
  whole = ap (λ front. front ++ take k buffer) first.whole ∙ ap (λ more. take n rest ++ more) next.front ∙ sym (take-add n k rest);
  fits = omega (arith, first.fits, next.no_more, length-drop n rest);
}

-- a read took none
pub GrewByAll-end : (rest : Option (List ℕ)) (n limit : ℕ) (bytes buffer before after : List ℕ) → IfSome rest (IsFront n bytes)
    → IfSome (option_map (drop n) rest) (λ left. ReadsFront 0 left buffer) → 0 < length buffer → n ≤ limit → after ≡ before ++ bytes
    → IfSome rest (GrewByAll limit before after)
GrewByAll-end None n limit bytes buffer before after first next room within grew = tt
GrewByAll-end (Some rest) n limit bytes buffer before after first next room within grew =
    let none : length (drop n rest) ≡ 0 = ap length (next.end refl room) in
    let short : length rest ≤ n = omega (arith, none, length-drop n rest) in
    record {
      whole = grew ∙ ap (λ front. before ++ front) (first.whole ∙ take_all n rest short);
      fits = omega (arith, short, within);
    }
