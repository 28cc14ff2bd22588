use mathlib.Core.Path.{ap₂, subst}
use native.Mathlib.Nat.{mul-le-mul}
use Rattle.field.specs.declared.Level.{Level}
use Rattle.field.proofs.Fields.{bounded}
use Rattle.key.proofs.Sized.{degree-lt, degree-some}
use Prim.Native.Nat.{ℕ, ◌+◌, ◌-◌, ◌*◌, ◌≤◌}
use mathlib.Core.Path.{sym, ap}
use native.Mathlib.Omega.{arith}
use Rattle.key.proofs.Key.lengths.Goals as goal

-- bounds of the numbers, and of their products
record Known (n m d w : ℕ) : Type 0 where
  n-le : n ≤ 128
  m-le : m ≤ 128
  d-some : 1 ≤ d
  d-le : d ≤ 8
  w_le : w ≤ 32

record Small (n m d w : ℕ) : Type 0 where
  matrix : m * n ≤ 128 * 128
  bits : n * d ≤ 128 * 8
  elements : w * (n * d) ≤ 32 * (128 * 8)
  coefficients : (n + m) * (d + 1) ≤ 256 * 9
  polynomials : w * ((n + m) * (d + 1)) ≤ 32 * (256 * 9)
  values : w * (n + m) ≤ 32 * 256
  masks : w * (d - 1) ≤ 32 * 8
  proof : w * d ≤ 32 * 8

small : {n m d w : ℕ} → Known n m d w → Small n m d w
small {n} {m} {d} k =
    let s : n + m ≤ 256 = omega (arith, k.n-le, k.m-le) in
    let e : d + 1 ≤ 9 = omega (arith, k.d-le) in
    let f : d - 1 ≤ 8 = omega (arith, k.d-le) in
    let c : (n + m) * (d + 1) ≤ 256 * 9 = mul-le-mul s e in
    record {
      matrix = mul-le-mul k.m-le k.n-le;
      bits = mul-le-mul k.n-le k.d-le;
      elements = mul-le-mul k.w_le (mul-le-mul k.n-le k.d-le);
      coefficients = c;
      polynomials = mul-le-mul k.w_le c;
      values = mul-le-mul k.w_le s;
      masks = mul-le-mul k.w_le f;
      proof = mul-le-mul k.w_le k.d-le;
    }

known : (c : goal.After-of-w) → let k = c.args.self in Known k.n k.m c.degree-d.result c.of-w.result.coordinates
known c =
    let a = c.args in
    let b = bounded a.level in
    let s = c.requires in
    record {
      n-le = omega (arith, b.most, s.most);
      m-le = omega (arith, b.most, s.most, s.fewer);
      d-some = omega (arith, c.degree-d.ensures, degree-some a.self.n s.two (omega (arith, b.most, s.most)));
      d-le = omega (arith, c.degree-d.ensures, degree-lt a.self.n 8 (omega (arith, s.two)) (omega (arith, b.most, s.most)) (omega (arith, b.most, s.most)));
      w_le = subst (λ (l : Level). l.coordinates ≤ 32) (sym c.of-w.ensures) (omega (arith, b.narrow));
    }

pub degree-d-requires : goal.degree-d-requires
degree-d-requires c = omega (arith, c.requires.two)

pub overflow_mul-bits : goal.overflow_mul-bits
overflow_mul-bits c = record { fits = omega (arith, (small (known c)).bits) }

pub overflow_add-size : goal.overflow_add-size
overflow_add-size c = omega (arith, (known c).n-le, (known c).m-le)

pub overflow_mul-result : goal.overflow_mul-result
overflow_mul-result c = record { fits = omega (arith, (small (known c)).matrix) }

pub overflow_mul-result-2 : goal.overflow_mul-result-2
overflow_mul-result-2 c = record { fits = omega (arith, (small (known c)).elements) }

pub overflow_add-result : goal.overflow_add-result
overflow_add-result c = omega (arith, (known c).d-le)

pub overflow_mul-result-3 : goal.overflow_mul-result-3
overflow_mul-result-3 c = record { fits = omega (arith, (small (known c)).coefficients) }

pub overflow_mul-result-4 : goal.overflow_mul-result-4
overflow_mul-result-4 c = record { fits = omega (arith, (small (known c)).polynomials) }

pub overflow_mul-result-5 : goal.overflow_mul-result-5
overflow_mul-result-5 c = record { fits = omega (arith, (small (known c)).values) }

pub overflow_sub-result : goal.overflow_sub-result
overflow_sub-result c = (known c).d-some

pub overflow_mul-result-6 : goal.overflow_mul-result-6
overflow_mul-result-6 c = record { fits = omega (arith, (small (known c)).masks) }

pub overflow_mul-result-7 : goal.overflow_mul-result-7
overflow_mul-result-7 c = record { fits = omega (arith, (small (known c)).proof) }

pub returns : goal.returns
returns c =
    let k = c.args.self in
    ap₂ (λ (d w : ℕ). record { matrix = k.m * k.n; vector = k.n; target = k.m; positions = k.n; bits = k.n * d; elements = w * (k.n * d); polynomials = w * ((k.n + k.m) * (d + 1)); values = w * (k.n + k.m); masks = w * (d - 1); proof = w * d; one = w }) c.degree-d.ensures (ap (λ (l : Level). l.coordinates) c.of-w.ensures)
