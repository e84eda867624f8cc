-- The letters of a count, as the table has them and as the classes have them.
use Rattle.std.proofs.Common.{◌≡◌, ℕ, zero, suc, ◌≤◌, Some, refl, arith}
use Rattle.std.specs.List.{list_any}
use Rattle.lls_hensel.specs.Class.{letter_among, same_letter}
use Rattle.lls_hensel.specs.Numbers.{representatives_of, representatives_of_fewer}

pub letter_among-representatives : (count byte : ℕ) → count ≤ 8 → list_any (λ r. same_letter r.letter (Some byte)) (representatives_of count) ≡ letter_among count byte
unfolding representatives_of representatives_of_fewer
letter_among-representatives zero byte h = refl
letter_among-representatives (suc zero) byte h = refl
letter_among-representatives (suc (suc zero)) byte h = refl
letter_among-representatives (suc (suc (suc zero))) byte h = refl
letter_among-representatives (suc (suc (suc (suc zero)))) byte h = refl
letter_among-representatives (suc (suc (suc (suc (suc zero))))) byte h = refl
letter_among-representatives (suc (suc (suc (suc (suc (suc zero)))))) byte h = refl
letter_among-representatives (suc (suc (suc (suc (suc (suc (suc zero))))))) byte h = refl
letter_among-representatives (suc (suc (suc (suc (suc (suc (suc (suc zero)))))))) byte h = refl
letter_among-representatives (suc (suc (suc (suc (suc (suc (suc (suc (suc count))))))))) byte h = absurd (omega arith)
