-- Products of integers distribute over sums and differences, and a factor that is at least 0 keeps the order.
use Rattle.std.proofs.Common.{◌≡◌, ℕ, suc, zero, ℤ, pos, negsuc, ◌+ℤ◌, ◌-ℤ◌, ◌*ℤ◌, ◌≤ℤ◌, arith, ap}
use Rattle.std.proofs.lemmas.Int.{ints}

pub mul_suc : (c y : ℤ) → c *ℤ (y +ℤ pos 1) ≡ (c *ℤ y) +ℤ c
mul_suc c (pos n) = omega (arith, ints)
mul_suc c (negsuc zero) = omega (arith, ints)
mul_suc c (negsuc (suc n)) =
    let e = ap (λ z. c *ℤ z) (let e : negsuc (suc n) +ℤ pos 1 ≡ negsuc n = omega (arith, ints) in e) in
    omega (arith, ints)

add_pos : (c y : ℤ) (n : ℕ) → c *ℤ (y +ℤ pos n) ≡ (c *ℤ y) +ℤ (c *ℤ pos n)
add_pos c y zero = let e = ap (λ z. c *ℤ z) (let e : y +ℤ pos 0 ≡ y = omega (arith, ints) in e) in omega (arith, ints)
add_pos c y (suc n) =
    let e = ap (λ z. c *ℤ z) (let e : y +ℤ pos (suc n) ≡ (y +ℤ pos n) +ℤ pos 1 = omega (arith, ints) in e) in
    let f = mul_suc c (y +ℤ pos n) in
    let g = add_pos c y n in
    let h = mul_suc c (pos n) in
    let k = ap (λ z. c *ℤ z) (let e : pos n +ℤ pos 1 ≡ pos (suc n) = omega (arith, ints) in e) in
    omega (arith, ints)

pub mul_add : (c y z : ℤ) → c *ℤ (y +ℤ z) ≡ (c *ℤ y) +ℤ (c *ℤ z)
mul_add c y (pos n) = add_pos c y n
mul_add c y (negsuc n) =
    let e = ap (λ z. c *ℤ z) (let e : (y +ℤ negsuc n) +ℤ pos (suc n) ≡ y = omega (arith, ints) in e) in
    let f = add_pos c (y +ℤ negsuc n) (suc n) in
    let g : c *ℤ negsuc n +ℤ (c *ℤ pos (suc n)) ≡ pos 0 = omega (arith, ints) in
    omega (arith, ints)

pub mul_sub : (c y z : ℤ) → c *ℤ (y -ℤ z) ≡ (c *ℤ y) -ℤ (c *ℤ z)
mul_sub c y z =
    let e = ap (λ z. c *ℤ z) (let e : (y -ℤ z) +ℤ z ≡ y = omega (arith, ints) in e) in
    omega (arith, ints, mul_add c (y -ℤ z) z)

mul_pos : (c d : ℤ) (n : ℕ) → c ≤ℤ d → (c *ℤ pos n) ≤ℤ (d *ℤ pos n)
mul_pos c d zero h = omega (arith, ints)
mul_pos c d (suc n) h =
    let i = mul_pos c d n h in
    let e : c *ℤ pos (suc n) ≡ (c *ℤ pos n) +ℤ c = omega (arith, ints) in
    let f : d *ℤ pos (suc n) ≡ (d *ℤ pos n) +ℤ d = omega (arith, ints) in
    omega (arith, ints)

-- units cost at least as much at a higher cost
pub mul_mono : (c d y : ℤ) → c ≤ℤ d → pos 0 ≤ℤ y → (c *ℤ y) ≤ℤ (d *ℤ y)
mul_mono c d (pos n) h g = mul_pos c d n h
mul_mono c d (negsuc n) h g = absurd (omega (arith, ints))
