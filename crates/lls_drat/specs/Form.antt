-- The form in which a proof is written.
use Rattle.std.specs.Prelude.{ℕ, Bool, ◌||◌, ◌&&◌, ◌==◌, nat_le, List, take, if◌then◌else◌}
use Rattle.std.specs.List.{list_all}
use Rattle.lls_text.specs.Lines.{line_feed, carriage_return}
use Rattle.lls_drat.specs.declared.form.Form.{Form}
use Rattle.lls_drat.specs.declared.form.Form.TheVariants.{Text, Binary}

-- LF, CR, a space, -, a digit, or a byte from A to z, among which all letters are
abbrev pub is_text_byte : ℕ → Bool
is_text_byte b = b == line_feed || b == carriage_return || b == 32 || b == 45 || (nat_le 48 b && nat_le b 57) || (nat_le 65 b && nat_le b 122)

-- a text begins with ten such bytes, or has fewer, all of them such
abbrev pub recognised : List ℕ → Form
recognised start = if list_all is_text_byte (take 10 start) then Text else Binary

-- the byte that ends a line, and the one that ends a lemma
abbrev pub end_byte : Form → ℕ
end_byte Text = line_feed
end_byte Binary = 0
