-- Products of sectors, pages and bytes.
use Rattle.std.proofs.Common.{◌≡◌, ℕ, ◌+◌, ◌*◌, ◌/◌, ◌<◌, ◌≤◌, arith}
use Rattle.std.proofs.lemmas.Nat.{mul-le}

pub product_most : (s p : ℕ) → s ≤ 128 → p ≤ 2048 → s * p ≤ 262144
product_most s p h k = mul-le s p 128 2048 h k

-- the page of an address ends inside
pub page-fits : (t a n : ℕ) → n ≡ t * 64 → a < n → a / 64 * 64 + 64 ≤ n
page-fits t a n e h = omega arith
