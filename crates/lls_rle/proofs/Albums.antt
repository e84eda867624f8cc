-- Pictures that are read line by line.
use Rattle.std.proofs.Common.{◌≡◌, ◌<◌, ◌+◌, ◌*◌, ℕ, Bool, List, [], ◌∷◌, ◌++◌, length, take, drop, Option, None, Some, refl, sym, ap, subst, ◌∙◌, arith, append_assoc, append-nil, length-append}
use Rattle.std.specs.Prelude.{Result, Ok, Err, All, IfSome}
use Rattle.std.proofs.lemmas.List.{take_all}
use Rattle.std.proofs.lemmas.List.Elements.{All-nil, All-cons, All-append}
use Rattle.lls_grid.proofs.Chunks.{cells_of_rows-folded}
use Rattle.lls_grid.specs.declared.patterns.TheConstants.Patterns.{MOST}
use Rattle.lls_rle.specs.declared.rle_fault.RleFault.{RleFault}
use Rattle.lls_rle.specs.declared.rle_fault.RleFault.TheVariants.{NoHeader, BadTag, TooWide, TooHigh, NoEnd}
use Rattle.lls_grid.specs.History.{History, cells_of_rows, rows_at}
use Rattle.lls_rle.specs.declared.pictures.Album.{Album}
use Rattle.lls_rle.specs.declared.pictures_fault.PicturesFault.{PicturesFault}
use Rattle.lls_rle.specs.declared.pictures_fault.PicturesFault.TheVariants.{Picture}
use Rattle.lls_rle.specs.declared.pictures_error.PicturesError.{PicturesError}
use Rattle.lls_rle.specs.declared.pictures_error.PicturesError.TheVariants as errors
use Rattle.lls_base.specs.Results.{and_then}
use Rattle.lls_text.specs.Lines.{lines_of}
use Rattle.lls_rle.specs.declared.reader.Reader.{Reader}
use Rattle.lls_rle.specs.Tokens.{PlacedToken}
use Rattle.lls_rle.specs.Items.{items_of}
use Rattle.lls_rle.specs.Picture.{pictured}
use Rattle.lls_rle.specs.Reader.{IsReader, answer_from, painted}
use Rattle.lls_rle.specs.Pictures.{Pictures, no_pictures, unread, come_to, line_pictured, lines_pictured, pictures_of}
use Rattle.lls_rle.specs.Album.{AreEnded, HasRead, IsAlbum, IsBegun, Takes}
use Rattle.lls_rle.proofs.Painting.{painted-none}
use Rattle.lls_rle.proofs.Endings.{bang, never_unended}

-- a reader that has read more
pub HasRead-more : (height width : ℕ) (tokens line : List PlacedToken) (reader new : Reader) → HasRead height width tokens reader
    → ((rest : List PlacedToken) → answer_from reader (line ++ rest) ≡ answer_from new rest) → IsReader new → (new.height ≡ reader.height) × (new.width ≡ reader.width) → HasRead height width (tokens ++ line) new
HasRead-more height width tokens line reader new h step kept sizes = record {
  kept = kept;
  sizes = (sizes.0 ∙ h.sizes.0, sizes.1 ∙ h.sizes.1);
  says = λ rest. sym (step rest) ∙ h.says (line ++ rest) ∙ ap (λ all. pictured height width (items_of all)) (sym (append_assoc tokens line rest));
}

-- what the tokens of a picture say up to here, where its reader goes on, has come to its end, or to a fault
pub goes_on_now : (height width : ℕ) (tokens : List PlacedToken) (reader : Reader) → HasRead height width tokens reader → pictured height width (items_of tokens) ≡ Err NoEnd
goes_on_now height width tokens reader h = ap (λ all. pictured height width (items_of all)) (sym (append-nil tokens)) ∙ sym (h.says [])

pub ends_now : (height width : ℕ) (tokens line : List PlacedToken) (reader : Reader) (answer : Result History RleFault) → HasRead height width tokens reader
    → ((rest : List PlacedToken) → answer_from reader (line ++ rest) ≡ answer) → pictured height width (items_of (tokens ++ line)) ≡ answer
ends_now height width tokens line reader answer h step =
    ap (λ all. pictured height width (items_of (tokens ++ all))) (sym (append-nil line)) ∙ sym (h.says (line ++ [])) ∙ step []

-- a fault isn't that the end is wanting
pub is_at_fault : (height width : ℕ) (tokens line : List PlacedToken) (reader : Reader) (pictures : Pictures) (fault : RleFault) → HasRead height width tokens reader
    → ((rest : List PlacedToken) → answer_from reader (line ++ rest) ≡ Err fault) → come_to pictures (tokens ++ line) (pictured height width (items_of (tokens ++ line))) ≡ unread pictures fault
is_at_fault height width tokens line reader pictures fault h step =
    ap (come_to pictures (tokens ++ line)) (ends_now height width tokens line reader (Err fault) h step) ∙ by_fault fault (λ same. never_unended height width (tokens ++ line) (behind ∙ ap Err same)) where
      behind : pictured height width (items_of ((tokens ++ line) ++ bang ∷ [])) ≡ Err fault
      behind = ap (λ all. pictured height width (items_of all)) (append_assoc tokens line (bang ∷ [])) ∙ sym (h.says (line ++ bang ∷ [])) ∙ step (bang ∷ [])

      by_fault : (f : RleFault) → (f ≡ NoEnd → ⊥) → come_to pictures (tokens ++ line) (Err f) ≡ unread pictures f
      by_fault NoHeader other = refl
      by_fault (BadTag l c) other = refl
      by_fault (TooWide row) other = refl
      by_fault (TooHigh row) other = refl
      by_fault NoEnd other = absurd (other refl)

-- the cells that a reader has painted are those of its picture
painted_cells : (height width : ℕ) (cells : List Bool) → length cells ≡ width * height → cells_of_rows (rows_at (painted height width cells []) 0) ≡ cells
painted_cells height width cells count =
    let none : width * (height * 0) ≡ 0 = omega arith in
    ap (λ h. cells_of_rows (rows_at h 0)) (painted-none height width cells) ∙ cells_of_rows-folded 1 height width 0 cells (omega (arith, count)) (omega arith)
    ∙ ap (λ n. take (width * height) (drop n cells)) none ∙ take_all (width * height) cells (omega (arith, count))

-- a line that the picture goes on behind, and one that has its end
pub takes_more : (album : Album) (pictures : Pictures) (more : List PlacedToken) (reader : Reader) → album.begun ≡ Some reader → AreEnded album.height album.width album.ended.items pictures
    → length album.ended.items < MOST → HasRead album.height album.width more reader → Takes {X = Unit {0}} (Ok tt) album (come_to pictures more (pictured album.height album.width (items_of more)))
takes_more album pictures more reader is ended room h =
    let P : Result History RleFault → Type 0 = λ told. Takes {X = Unit {0}} (Ok tt) album (come_to pictures more told) in
    let B : Option Reader → Type 0 = λ begun. IsBegun album.height album.width begun (Some more) in
    let R : Option Reader → Type 0 = λ begun. IfSome begun (λ reader. length album.ended.items < MOST) in
    subst P (sym (goes_on_now album.height album.width more reader h)) (record {
      ended = record { same = ended.same; sized = ended.sized; few = ended.few };
      begun = subst B (sym is) h;
      room = subst R (sym is) room;
    })

pub takes_ended : (album : Album) (pictures : Pictures) (more : List PlacedToken) (before : List (List Bool)) (cells : List Bool) → album.begun ≡ None → AreEnded album.height album.width before pictures
    → length before < MOST → album.ended.items ≡ before ++ cells ∷ [] → length cells ≡ album.width * album.height
    → pictured album.height album.width (items_of more) ≡ Ok (painted album.height album.width cells []) → Takes {X = Unit {0}} (Ok tt) album (come_to pictures more (pictured album.height album.width (items_of more)))
takes_ended album pictures more before cells none ended room is count told =
    let height = album.height in
    let width = album.width in
    let IsSized : List Bool → Type 0 = λ pattern. length pattern ≡ width * height in
    let AreSized : List (List Bool) → Type 0 = λ patterns. All IsSized patterns in
    let P : Result History RleFault → Type 0 = λ answer. Takes {X = Unit {0}} (Ok tt) album (come_to pictures more answer) in
    let B : Option Reader → Type 0 = λ begun. IsBegun height width begun None in
    let R : Option Reader → Type 0 = λ begun. IfSome begun (λ reader. length album.ended.items < MOST) in
    subst P (sym told) (record {
      ended = record {
        same = is ∙ ap (λ patterns. patterns ++ cells ∷ []) ended.same ∙ ap (λ pattern. pictures.ended ++ pattern ∷ []) (sym (painted_cells height width cells count));
        sized = subst AreSized (sym is) (All-append IsSized before (cells ∷ []) ended.sized (All-cons IsSized cells [] count (All-nil IsSized)));
        few = omega (arith, room, ap length is, length-append before (cells ∷ []));
      };
      begun = subst B (sym none) tt;
      room = subst R (sym none) tt;
    })

-- a line at fault
pub takes_fault : (album : Album) (pictures : Pictures) (told : Result Pictures PicturesFault) (error : PicturesError) (fault : RleFault) (count : ℕ) → count ≡ length pictures.ended
    → error ≡ errors.Fault (Picture count fault) → told ≡ unread pictures fault → Takes {X = Unit {0}} (Err error) album told
takes_fault album pictures told error fault count same is unread_so =
    let E : PicturesError → Type 0 = λ e. Takes {X = Unit {0}} (Err e) album told in
    let P : Result Pictures PicturesFault → Type 0 = λ answer. Takes {X = Unit {0}} (Err (errors.Fault (Picture count fault))) album answer in
    subst E (sym is) (subst P (sym unread_so) (ap (λ n. Picture n fault) same))

-- nothing has been read
pub none_read : (album : Album) → album.ended.items ≡ [] → album.begun ≡ None → IsAlbum album no_pictures
none_read album none apart =
    let height = album.height in
    let width = album.width in
    let AreSized : List (List Bool) → Type 0 = λ patterns. All (λ pattern. length pattern ≡ width * height) patterns in
    let B : Option Reader → Type 0 = λ begun. IsBegun height width begun None in
    let R : Option Reader → Type 0 = λ begun. IfSome begun (λ reader. length album.ended.items < MOST) in
    record {
      ended = record { same = none; sized = subst AreSized (sym none) (All-nil (λ pattern. length pattern ≡ width * height)); few = omega (arith, ap length none) };
      begun = subst B (sym apart) tt;
      room = subst R (sym apart) tt;
    }

pub pictures_of-lines : (height width : ℕ) (bytes : List ℕ) → pictures_of height width bytes ≡ lines_pictured height width 1 (lines_of bytes) no_pictures
unfolding pictures_of
pictures_of-lines height width bytes = refl

-- what a line leaves
pub taken_so : (album : Album) (told : Result Pictures PicturesFault) → Takes {X = Unit {0}} (Ok tt) album told → (pictures : Pictures) × IsAlbum album pictures × (told ≡ Ok pictures)
taken_so album (Ok pictures) h = (pictures, h, refl)
taken_so album (Err fault) h = absurd h

pub one_line : (height width number : ℕ) (line : List ℕ) (lines : List (List ℕ)) (pictures next : Pictures) (all : Result (List (List Bool)) PicturesFault) → line_pictured height width number line pictures ≡ Ok next
    → lines_pictured height width number (line ∷ lines) pictures ≡ all → lines_pictured height width (number + 1) lines next ≡ all
one_line height width number line lines pictures next all took told =
    sym (ap (λ step. and_then step (lines_pictured height width (number + 1) lines)) took) ∙ told
