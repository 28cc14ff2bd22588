-- Segments of fields: what each owes at any position, and what one after another then owes.
use mathlib.Core.Path.{◌≡◌, refl, sym, ap, ap₂, ◌∙◌, subst}
use mathlib.Core.List.{List, [], ◌++◌, append_assoc}
use Prim.Native.Nat.{ℕ, ◌+◌}
use lib.ListN.{length, take, drop, length-append}
use lib.Seq.{take_at, drop_at}
use Rattle.copying.specs.Words.{Bytes}
use Rattle.refusal.proofs.Answers.{None}
use Rattle.field.specs.declared.Level.{Level}
use Rattle.key.specs.declared.Key.{Key}
use Rattle.key.specs.Key.{Sized}
use Rattle.layout.specs.declared.Row.{Row}
use Rattle.layout.specs.Tests.{key_at, tests, after}
use Rattle.layout.proofs.Rows.{none-append, tests-append}
use Rattle.package.specs.Written.{joined}
use Rattle.package.proofs.Joined.{Fits, AllBytes, cut, fits-append, fits-length, cut-append, joined-append, after-joined, all_append}

-- any bytes may follow
abbrev pub Any : List ℕ → Type 0
Any rest = Unit {0}

-- data, their fields, when these are within the limits, their rows, the rows that are told by bytes and the position where they
-- start, and what may follow, where a row depends on that
module _ (l : Level) {Data : Type 0} (fields : Data → List (ℕ × List ℕ)) (Limits : Data → Type 0) (table : Data → List Row) (rows : List ℕ → ℕ → List Row) (Before : List ℕ → Type 0) where
  pub record SegmentLaws : Type 0 where
    pub fits : (x : Data) → Limits x → Fits l (table x) (fields x)
    pub bytes : (x : Data) → Limits x → AllBytes (fields x)
    -- the rows that written bytes tell are those of what was written
    pub there : (pre rest : List ℕ) → Before rest → (x : Data) → Limits x → rows (pre ++ (joined (fields x) ++ rest)) (length pre) ≡ table x
    -- fields that are not refused are those of data within the limits, and of no others
    pub read : (s : List ℕ) → Bytes s → (at : ℕ) → None (tests l s at (rows s at)) → (x : Data) × Limits x × (fields x ≡ cut s at (rows s at))
    pub single : (x y : Data) → Limits x → Limits y → fields x ≡ fields y → x ≡ y

  -- a segment that begins with n and m
  pub record OpeningLaws (key : Data → Key) : Type 0 where
    pub laws : SegmentLaws
    pub sized : (x : Data) → Limits x → Sized l (key x)
    pub starts : (pre rest : List ℕ) (x : Data) → Limits x → key_at (pre ++ (joined (fields x) ++ rest)) (length pre + 3) ≡ key x
    pub told : (s : List ℕ) (b : Bytes s) (at : ℕ) (e : None (tests l s at (rows s at))) → key (laws.read s b at e).0 ≡ key_at s (at + 3)

-- lists of one length at the start of the same list are the same, and so are the rests
append-same : {A : Type 0} (xs ys us vs : List A) → length xs ≡ length ys → xs ++ us ≡ ys ++ vs → (xs ≡ ys) × (us ≡ vs)
append-same xs ys us vs h e = (
  sym (take_at xs us (length xs) refl) ∙ ap (take (length xs)) e ∙ take_at ys vs (length xs) (sym h),
  sym (drop_at xs us (length xs) refl) ∙ ap (drop (length xs)) e ∙ drop_at ys vs (length xs) (sym h),
)

-- one segment after another
module _ (l : Level) {A B : Type 0} (fA : A → List (ℕ × List ℕ)) (LA : A → Type 0) (tA : A → List Row) (rA : List ℕ → ℕ → List Row) (BA : List ℕ → Type 0) (key : A → Key)
    (fB : B → List (ℕ × List ℕ)) (LB : Key → B → Type 0) (tB : Key → B → List Row) (rB : Key → List ℕ → ℕ → List Row) (BB : List ℕ → Type 0)
    (first : OpeningLaws l fA LA tA rA BA key) (second : (key : Key) → Sized l key → SegmentLaws l fB (LB key) (tB key) (rB key) BB)
    (meets : (key : Key) (y : B) → LB key y → (rest : List ℕ) → BB rest → BA (joined (fB y) ++ rest)) (none : BB []) where
  abbrev Both : A × B → Type 0
  Both x = LA x.0 × LB (key x.0) x.1

  abbrev both_fields : A × B → List (ℕ × List ℕ)
  both_fields x = fA x.0 ++ fB x.1

  abbrev both_rows : List ℕ → ℕ → List Row
  both_rows s at = rA s at ++ rB (key_at s (at + 3)) s (after at (rA s at))

  abbrev both_table : A × B → List Row
  both_table x = tA x.0 ++ tB (key x.0) x.1

  split : (rest : List ℕ) (x : A × B) → joined (both_fields x) ++ rest ≡ joined (fA x.0) ++ (joined (fB x.1) ++ rest)
  split rest x = ap (λ t. t ++ rest) (joined-append (fA x.0) (fB x.1)) ∙ append_assoc (joined (fA x.0)) (joined (fB x.1)) rest

  both_there : (pre rest : List ℕ) → BB rest → (x : A × B) → Both x → both_rows (pre ++ (joined (both_fields x) ++ rest)) (length pre) ≡ both_table x
  both_there pre rest m x v =
      let k = key x.0 in
      let table = tA x.0 in
      let more = joined (fB x.1) ++ rest in
      let s = pre ++ (joined (fA x.0) ++ more) in
      let longer = pre ++ joined (fA x.0) in
      let end : after (length pre) table ≡ length longer = after-joined l (length pre) table (fA x.0) (first.laws.fits x.0 v.0) ∙ sym (length-append pre (joined (fA x.0))) in
      ap (λ t. both_rows (pre ++ t) (length pre)) (split rest x)
      ∙ ap (λ r. r ++ rB (key_at s (length pre + 3)) s (after (length pre) r)) (first.laws.there pre more (meets k x.1 v.1 rest m) x.0 v.0)
      ∙ ap (λ (z : Key). table ++ rB z s (after (length pre) table)) (first.starts pre more x.0 v.0)
      ∙ ap₂ (λ (t : List ℕ) (i : ℕ). table ++ rB k t i) (sym (append_assoc pre (joined (fA x.0)) more)) end
      ∙ ap (λ r. table ++ r) ((second k (first.sized x.0 v.0)).there longer rest m x.1 v.1)

  both_read : (s : List ℕ) → Bytes s → (at : ℕ) → None (tests l s at (both_rows s at)) → (x : A × B) × Both x × (both_fields x ≡ cut s at (both_rows s at))
  both_read s b at e =
      let rows = rA s at in
      let others = rB (key_at s (at + 3)) s (after at rows) in
      let parts = none-append (tests l s at rows) (tests l s (after at rows) others) (subst None (tests-append l s at rows others) e) in
      let x = first.laws.read s b at parts.0 in
      let y = (second (key_at s (at + 3)) (subst (Sized l) (first.told s b at parts.0) (first.sized x.0 x.1))).read s b (after at rows) parts.1 in
      ((x.0, y.0), (x.1, subst (λ k. LB k y.0) (sym (first.told s b at parts.0)) y.1), ap₂ ◌++◌ x.2 y.2 ∙ sym (cut-append s at rows others))

  both_single : (x y : A × B) → Both x → Both y → both_fields x ≡ both_fields y → x ≡ y
  both_single x y v w e =
      let same = append-same (fA x.0) (fA y.0) (fB x.1) (fB y.1) (length_of x v ∙ ap length (sym (table_of x v) ∙ ap (λ s. rA s 0) bytes ∙ table_of y w) ∙ sym (length_of y w)) e in
      let a = first.laws.single x.0 y.0 v.0 w.0 same.0 in
      let b = (second (key x.0) (first.sized x.0 v.0)).single x.1 y.1 v.1 (subst (λ (z : A). LB (key z) y.1) (sym a) w.1) same.1 in
      ap₂ (λ (z : A) (u : B). (z, u)) a b
    where
      length_of : (x : A × B) → Both x → length (fA x.0) ≡ length (tA x.0)
      length_of x v = fits-length l (tA x.0) (fA x.0) (first.laws.fits x.0 v.0)

      -- the first segment's table, told by the bytes of both
      table_of : (x : A × B) → Both x → rA (joined (fA x.0) ++ (joined (fB x.1) ++ [])) 0 ≡ tA x.0
      table_of x v = first.laws.there [] (joined (fB x.1) ++ []) (meets (key x.0) x.1 v.1 [] none) x.0 v.0

      bytes : joined (fA x.0) ++ (joined (fB x.1) ++ []) ≡ joined (fA y.0) ++ (joined (fB y.1) ++ [])
      bytes = sym (split [] x) ∙ ap (λ f. joined f ++ []) e ∙ split [] y

  pub followed : OpeningLaws l both_fields Both both_table both_rows BB (λ x. key x.0)
  unfolding both_read
  followed = record {
    laws = record {
      fits = λ x v. fits-append l (tA x.0) (tB (key x.0) x.1) (fA x.0) (fB x.1) (first.laws.fits x.0 v.0) ((second (key x.0) (first.sized x.0 v.0)).fits x.1 v.1);
      bytes = λ x v. all_append (fA x.0) (fB x.1) (first.laws.bytes x.0 v.0) ((second (key x.0) (first.sized x.0 v.0)).bytes x.1 v.1);
      there = both_there;
      read = both_read;
      single = both_single;
    };
    sized = λ x v. first.sized x.0 v.0;
    starts = λ pre rest x v. ap (λ t. key_at (pre ++ t) (length pre + 3)) (split rest x) ∙ first.starts pre (joined (fB x.1) ++ rest) x.0 v.0;
    told = λ s b at e. first.told s b at (none-append (tests l s at (rA s at)) (tests l s (after at (rA s at)) (rB (key_at s (at + 3)) s (after at (rA s at)))) (subst None (tests-append l s at (rA s at) (rB (key_at s (at + 3)) s (after at (rA s at)))) e)).0;
  }
