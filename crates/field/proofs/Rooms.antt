-- Places in tables and sums of parts, where each element has as many words as the level named needs.
use mathlib.Core.Path.{◌≡◌}
use Prim.Native.Nat.{ℕ, suc, ◌+◌, ◌-◌, ◌*◌, ◌/◌, ◌%◌, ◌<◌, ◌≤◌}
use native.Mathlib.Omega.{arith}
use Rattle.field.specs.declared.Level.{Level}
use Rattle.field.specs.Level.{level_at}
use Rattle.field.specs.Packed.{room}
use Rattle.field.proofs.Named.{every}

module _ (number : ℕ) where
  abbrev l : Level
  l = level_at number

  abbrev W : ℕ
  W = room l

  pub most : W * l.width ≤ 72
  most = every (λ l. room l * l.width ≤ 72) number (omega arith) (omega arith)

  pub room_most : W ≤ 6
  room_most = every (λ l. room l ≤ 6) number (omega arith) (omega arith)

  pub room_pos : 0 < W
  room_pos = every (λ l. 0 < room l) number (omega arith) (omega arith)

  -- word q of element k
  pub inside : (k q : ℕ) → k < l.width → q < W → W * k + q < W * l.width
  inside = every (λ l. (k q : ℕ) → k < l.width → q < room l → room l * k + q < room l * l.width) number (λ k q a b. omega arith) (λ k q a b. omega arith)

  pub apart : (k p j q : ℕ) → p < W → q < W → W * k + p ≡ W * j + q → (k ≡ j) × (p ≡ q)
  apart = every (λ l. (k p j q : ℕ) → p < room l → q < room l → room l * k + p ≡ room l * j + q → (k ≡ j) × (p ≡ q)) number (λ k p j q a b e. (omega arith, omega arith)) (λ k p j q a b e. (omega arith, omega arith))

  pub element_of_lem : (k q : ℕ) → q < W → (W * k + q) / W ≡ k
  element_of_lem = every (λ l. (k q : ℕ) → q < room l → (room l * k + q) / room l ≡ k) number (λ k q a. omega arith) (λ k q a. omega arith)

  pub word_of : (k q : ℕ) → q < W → (W * k + q) % W ≡ q
  word_of = every (λ l. (k q : ℕ) → q < room l → (room l * k + q) % room l ≡ q) number (λ k q a. omega arith) (λ k q a. omega arith)

  -- place i is in the first element, or as far into the next one as place i - W into its own
  pub element-first : (i : ℕ) → i < W → 0 ≡ i / W
  element-first = every (λ l. (i : ℕ) → i < room l → 0 ≡ i / room l) number (λ i a. omega arith) (λ i a. omega arith)

  pub word_first : (i : ℕ) → i < W → i ≡ i % W
  word_first = every (λ l. (i : ℕ) → i < room l → i ≡ i % room l) number (λ i a. omega arith) (λ i a. omega arith)

  pub element-next : (i : ℕ) → W ≤ i → suc ((i - W) / W) ≡ i / W
  element-next = every (λ l. (i : ℕ) → room l ≤ i → suc ((i - room l) / room l) ≡ i / room l) number (λ i a. omega arith) (λ i a. omega arith)

  pub word_next : (i : ℕ) → W ≤ i → (i - W) % W ≡ i % W
  word_next = every (λ l. (i : ℕ) → room l ≤ i → (i - room l) % room l ≡ i % room l) number (λ i a. omega arith) (λ i a. omega arith)

  pub element-lt : (i : ℕ) → i < W * l.width → i / W < l.width
  element-lt = every (λ l. (i : ℕ) → i < room l * l.width → i / room l < l.width) number (λ i a. omega arith) (λ i a. omega arith)
