-- Laws of every such ring, proved: a reader need not believe this file. `simp ring` proves an equation that holds in all of them.
use Rattle.std.specs.Prelude.{◌≡◌}
use Rattle.std.proofs.Common.{sym, ◌∙◌, ap}
use Rattle.field.specs.Ring.{Ring, Hom}

module _ (R : Ring) where
  open R use {Carrier, zero as 𝟘, one as 𝟙, add as ◌⊕◌, mul as ◌⊗◌}

  infixl 60 ◌⊕◌
  infixl 70 ◌⊗◌
  pub add_assoc : (a b c : Carrier) → a ⊕ b ⊕ c ≡ a ⊕ (b ⊕ c)
  add_assoc = R.add_assoc

  pub add_comm : (a b : Carrier) → a ⊕ b ≡ b ⊕ a
  add_comm = R.add_comm

  pub add-zero : (a : Carrier) → a ⊕ 𝟘 ≡ a
  add-zero = R.add-zero

  pub add_self : (a : Carrier) → a ⊕ a ≡ 𝟘
  add_self = R.add_self

  pub mul_assoc : (a b c : Carrier) → a ⊗ b ⊗ c ≡ a ⊗ (b ⊗ c)
  mul_assoc = R.mul_assoc

  pub mul_comm : (a b : Carrier) → a ⊗ b ≡ b ⊗ a
  mul_comm = R.mul_comm

  pub mul-one : (a : Carrier) → a ⊗ 𝟙 ≡ a
  mul-one = R.mul-one

  pub mul-add : (a b c : Carrier) → a ⊗ (b ⊕ c) ≡ a ⊗ b ⊕ a ⊗ c
  mul-add = R.mul-add

  pub zero-add : (a : Carrier) → 𝟘 ⊕ a ≡ a
  zero-add a = add_comm 𝟘 a ∙ add-zero a

  pub add_left_comm : (a b c : Carrier) → a ⊕ (b ⊕ c) ≡ b ⊕ (a ⊕ c)
  add_left_comm a b c = sym (add_assoc a b c) ∙ rw (add_comm a b) (add_assoc b a c)

  pub add_self_left : (a b : Carrier) → a ⊕ (a ⊕ b) ≡ b
  add_self_left a b = sym (add_assoc a a b) ∙ rw (add_self a) (zero-add b)

  pub mul_left_comm : (a b c : Carrier) → a ⊗ (b ⊗ c) ≡ b ⊗ (a ⊗ c)
  mul_left_comm a b c = sym (mul_assoc a b c) ∙ rw (mul_comm a b) (mul_assoc b a c)

  pub add-mul : (a b c : Carrier) → (a ⊕ b) ⊗ c ≡ a ⊗ c ⊕ b ⊗ c
  add-mul a b c = mul_comm (a ⊕ b) c ∙ rw (mul-add c a b, mul_comm c a, mul_comm c b)

  pub mul-zero : (a : Carrier) → a ⊗ 𝟘 ≡ 𝟘
  mul-zero a = ap (λ x. a ⊗ x) (sym (add_self 𝟘)) ∙ mul-add a 𝟘 𝟘 ∙ add_self (a ⊗ 𝟘)

  pub zero-mul : (a : Carrier) → 𝟘 ⊗ a ≡ 𝟘
  zero-mul a = mul_comm 𝟘 a ∙ mul-zero a

  pub one-mul : (a : Carrier) → 𝟙 ⊗ a ≡ a
  one-mul a = mul_comm 𝟙 a ∙ mul-one a

  -- a sum is zero only of equals
  pub add-equal : (a b : Carrier) → a ⊕ b ≡ 𝟘 → a ≡ b
  add-equal a b h = sym (add_self_left b a) ∙ ap (λ x. b ⊕ x) (add_comm b a ∙ h) ∙ add-zero b

module _ (R S : Ring) (h : Hom R S) where
  pub hom_zero : h.map R.zero ≡ S.zero
  hom_zero = ap h.map (sym (add_self R R.zero)) ∙ h.map-add R.zero R.zero ∙ add_self S (h.map R.zero)

pub ruleset ring = (add_assoc, add_comm, add_left_comm, add-zero, zero-add, add_self, add_self_left, mul_assoc, mul_comm, mul_left_comm, mul-one, one-mul, mul-zero, zero-mul, mul-add, add-mul)
