-- The tests of elements of K for zero and for equality, and of their words for the limit, at every level.
use mathlib.Core.Path.{◌≡◌, sym, ◌∙◌, ap}
use mathlib.Core.Bool.{true}
use mathlib.Core.Logic.{◌↔◌}
use Prim.Native.Nat.{◌+◌, ◌^◌, ◌≤◌}
use native.Mathlib.Omega.{arith}
use borrow.Author.Tests.{eqb-true, eq-eqb, le-leb}
use lib.Dec.{leb, eqb}
use lib.ListN.{get_or}
use lib.Seq.{ext_get_or}
use Rattle.lists.specs.Words.{all}
use Rattle.lists.proofs.Words.{all-at, all_from}
use Rattle.field.specs.RingLaws.{add-equal}
use Rattle.field.specs.declared.Level.{Level}
use Rattle.field.specs.Level.{K}
use Rattle.field.specs.Word.{element, words, within, is_zero, equal}
use Rattle.field.proofs.Elements.{words-length, words-lt, element-words, zero_word}

module _ (l : Level) where
  pub zero-true : (a : (K l).Carrier) → (is_zero l a ≡ true) ↔ (a ≡ (K l).zero)
  unfolding is_zero
  zero-true a = (λ e. sym (element-words l a) ∙ ap (element l) (same e) ∙ element-words l (K l).zero, λ e. all_from (λ x. eqb x 0) (words l a) (λ k h. eq-eqb (get_or (words l a) k 0) 0 (ap (λ b. get_or (words l b) k 0) e ∙ zero_word l k (omega (arith, words-length l a)))))
    where
      same : all (λ x. eqb x 0) (words l a) ≡ true → words l a ≡ words l (K l).zero
      same e = ext_get_or 0 (words l a) (words l (K l).zero) (words-length l a ∙ sym (words-length l (K l).zero))
          (λ k h. eqb-true (get_or (words l a) k 0) 0 (all-at (λ x. eqb x 0) (words l a) e k h) ∙ sym (zero_word l k (omega (arith, words-length l a))))

  pub equal-true : (a b : (K l).Carrier) → (equal l a b ≡ true) ↔ (a ≡ b)
  unfolding equal
  equal-true a b = (λ e. add-equal (K l) a b ((zero-true ((K l).add a b)).0 e), λ e. (zero-true ((K l).add a b)).1 (ap (λ c. (K l).add c b) e ∙ (K l).add_self b))

  -- where the limit is the largest number of `width` digits, no word of an element is above it
  pub words-within : 2 ^ l.width ≤ l.limit + 1 → (a : (K l).Carrier) → within l (words l a) ≡ true
  unfolding within
  words-within h a = all_from (λ x. leb x l.limit) (words l a) (λ k p. le-leb (get_or (words l a) k 0) l.limit (omega (arith, words-lt l a k (omega (arith, words-length l a)))))
