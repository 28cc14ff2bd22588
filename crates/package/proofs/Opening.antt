-- The laws of the key's fields, at any position: the first three, and y, which may be absent.
use mathlib.Core.Path.{◌≡◌, refl, sym, ap, ap₂, ◌∙◌, subst}
use mathlib.Core.Bool.{Bool, true, false, true≢false}
use mathlib.Core.List.{List, [], ◌∷◌, ◌++◌, append_assoc}
use Prim.Native.Nat.{ℕ, zero, suc, ◌+◌, ◌*◌}
use native.Mathlib.Nat.{add_assoc}
use native.Mathlib.Omega.{arith}
use borrow.Author.Tests.{lt-leb, le-ltb, ne_eqb, not-false}
use lib.ListN.{length, take}
use lib.Seq.{get_or-append-add, take_at}
use Rattle.lists.specs.Words.{part}
use Rattle.copying.specs.Words.{Bytes, words, word_bytes}
use Rattle.copying.proofs.Bytes.{words-bytes, words-length, bytes-length, bytes-words}
use Rattle.refusal.proofs.Answers.{None}
use Rattle.field.specs.declared.Level.{Level}
use Rattle.field.specs.Level.{FIRST, level_at}
use Rattle.elimination.specs.Rank.{short, Leaning}
use Rattle.key.specs.declared.Key.{Key}
use Rattle.key.specs.Key.{key_slices, Sized, sizes, lengths}
use Rattle.key.proofs.Sized.{sized}
use Rattle.layout.specs.declared.Row.{Row}
use Rattle.layout.specs.declared.Kind.TheVariants.{Elements}
use Rattle.layout.specs.Layout.{optional, first_rows, target_row, key_rows, matrix_of, leans}
use Rattle.layout.specs.Tests.{key_at}
use Rattle.layout.proofs.Files.{key-part}
use Rattle.layout.proofs.Bounds.{bounds}
use Rattle.package.specs.Written.{joined, content_of, target_fields, KeyData, key_fields, Within, ValidKey}
use Rattle.package.proofs.Joined.{Fits, AllBytes, cut, same, content-bytes, joined-append, cut_fits}
use Rattle.package.proofs.Words.{fit_words, test-elements, within-bytes}
use Rattle.package.proofs.Target.{NotTarget, target_table, target-laws}
use Rattle.package.proofs.Segments.{Any, OpeningLaws, followed}
use Rattle.elimination.proofs.Leaning.{leaning}

-- sizes that are not refused
none-sizes : (l : Level) (key : Key) → Sized l key → None (sizes l key)
none-sizes l key s = (le-ltb key.n 2 s.two, (le-ltb l.most key.n s.most, (ne_eqb key.m 0 (λ e. omega (arith, s.some, e)), (lt-leb key.n key.m s.fewer, tt))))

sizes-bytes : (key : Key) → Sized (level_at FIRST) key → Bytes (key.n ∷ key.m ∷ [])
sizes-bytes key s zero = omega (arith, (bounds key s).vector)
sizes-bytes key s (suc zero) = omega (arith, (bounds key s).vector, s.fewer)
sizes-bytes key s (suc (suc i)) = omega arith

-- the first three fields, and when they are within the limits
pub record First : Type 0 where
  pub sizes : Key
  pub h : List ℕ
  pub x : List ℕ

pub record ValidFirst (k : First) : Type 0 where
  pub sized : Sized (level_at FIRST) k.sizes
  pub h : Within (level_at FIRST) (lengths (level_at FIRST) k.sizes).matrix k.h
  pub x : Within (level_at FIRST) (lengths (level_at FIRST) k.sizes).vector k.x

abbrev first_fields : First → List (ℕ × List ℕ)
first_fields k =
    (0x01, k.sizes.n ∷ k.sizes.m ∷ [])
    ∷ (0x02, word_bytes k.h)
    ∷ (0x03, word_bytes k.x)
    ∷ []

abbrev first_rows_at : List ℕ → ℕ → List Row
first_rows_at s at = first_rows (level_at FIRST) (key_at s (at + 3))

abbrev first_table : First → List Row
first_table k = first_rows (level_at FIRST) k.sizes

unpack_first : List (ℕ × List ℕ) → First
unpack_first fields = record {
  sizes = key_at (content_of 0x01 fields) 0;
  h = words (content_of 0x02 fields);
  x = words (content_of 0x03 fields);
}

first_packed : (k : First) → unpack_first (first_fields k) ≡ k
unfolding unpack_first content_of
first_packed k = rw (words-bytes k.h, words-bytes k.x)

first_fits : (k : First) → ValidFirst k → Fits (level_at FIRST) (first_table k) (first_fields k)
first_fits k v =
    let l = level_at FIRST in
    let b = bounds k.sizes v.sized in (
      record { tag = refl; len = refl; short = omega arith; values = none-sizes l k.sizes v.sized },
      (
        fit_words l 0x02 _ Elements k.h (omega (arith, b.matrix)) v.h (test-elements l _),
        (fit_words l 0x03 _ Elements k.x (omega (arith, b.vector)) v.x (test-elements l _), tt),
      ),
    )

first-bytes : (k : First) → ValidFirst k → AllBytes (first_fields k)
first-bytes k v = (
  omega arith,
  sizes-bytes k.sizes v.sized,
  (
    omega arith,
    within-bytes k.h v.h.1,
    (omega arith, within-bytes k.x v.x.1, tt),
  ),
)

first-starts : (pre rest : List ℕ) (k : First) → key_at (pre ++ (joined (first_fields k) ++ rest)) (length pre + 3) ≡ k.sizes
unfolding joined
first-starts pre rest k =
    let s = joined (first_fields k) ++ rest in
    ap₂ (λ (n m : ℕ). record { n = n; m = m }) (get_or-append-add pre s 3 0) (rw add_assoc (get_or-append-add pre s 4 0))

-- a content of two bytes
pair : (c : List ℕ) → length c ≡ 2 → (key_at c 0).n ∷ (key_at c 0).m ∷ [] ≡ c
pair [] h = absurd (omega arith)
pair (a ∷ []) h = absurd (omega arith)
pair (a ∷ b ∷ []) h = refl
pair (a ∷ b ∷ d ∷ c) h = absurd (omega arith)

module _ (s : List ℕ) (b : Bytes s) (at : ℕ) where
  abbrev first_found : List (ℕ × List ℕ)
  first_found = cut s at (first_rows_at s at)

  abbrev first_data : First
  first_data = record { sizes = key_at s (at + 3); h = words (content_of 0x02 first_found); x = words (content_of 0x03 first_found) }

  first-valid : Fits (level_at FIRST) (first_rows_at s at) first_found → ValidFirst first_data
  unfolding cut content_of
  first-valid w =
      let f = w.1 in
      record {
        sized = subst (Sized (level_at FIRST)) (key-part s (at + 3)) (sized (level_at FIRST) (key_at (part (at + 3) 2 s) 0) w.0.values);
        h = (words-length _ _ f.0.len, not-false _ f.0.values.0);
        x = (words-length _ _ f.1.0.len, not-false _ f.1.0.values.0);
      }

  first_found_lem : Fits (level_at FIRST) (first_rows_at s at) first_found → first_fields first_data ≡ first_found
  unfolding cut content_of
  first_found_lem w =
      let c : (tag : ℕ) → List ℕ = λ tag. content_of tag first_found in
      let all : (tag : ℕ) → Bytes (c tag) = λ tag. content-bytes s b tag at (first_rows_at s at) in
      let f = w.1 in
      same 0x01 (ap (λ (key : Key). key.n ∷ key.m ∷ []) (sym (key-part s (at + 3))) ∙ pair (part (at + 3) 2 s) w.0.len)
      (same 0x02 (bytes-words (c 0x02) _ (all 0x02) f.0.len)
      (same 0x03 (bytes-words (c 0x03) _ (all 0x03) f.1.0.len) refl))

first-laws : OpeningLaws (level_at FIRST) first_fields ValidFirst first_table first_rows_at Any (λ k. k.sizes)
first-laws = record {
  laws = record {
    fits = first_fits;
    bytes = first-bytes;
    there = λ pre rest m k v. ap (λ key. first_rows (level_at FIRST) key) (first-starts pre rest k);
    read = λ s b at e. let w = cut_fits (level_at FIRST) s b at (first_rows_at s at) e in (first_data s b at, first-valid s b at w, first_found_lem s b at w);
    single = λ x y v w e. sym (first_packed x) ∙ ap unpack_first e ∙ first_packed y;
  };
  sized = λ k v. v.sized;
  starts = λ pre rest k v. first-starts pre rest k;
  told = λ s b at e. refl;
}

-- y after them
abbrev pub ValidTarget : Key → List ℕ → Type 0
ValidTarget key y = Within (level_at FIRST) (lengths (level_at FIRST) key).target y

abbrev key_target : Key → List ℕ → List Row
key_target key y = target_table (lengths (level_at FIRST) key).target y

abbrev target_rows : Key → List ℕ → ℕ → List Row
target_rows key s at = optional s at (target_row (level_at FIRST) key)

abbrev pub key_rows_at : List ℕ → ℕ → List Row
key_rows_at s at = key_rows (level_at FIRST) (key_at s (at + 3)) s at

-- the data of the key, taken apart
abbrev pub first_part : KeyData → First
first_part k = record { sizes = k.sizes; h = k.slices.h; x = k.slices.x }

abbrev apart : KeyData → First × List ℕ
apart k = (first_part k, k.slices.y)

abbrev together : First × List ℕ → KeyData
together p = record { sizes = p.0.sizes; slices = key_slices p.0.h p.0.x p.1 }

abbrev pub key_table : KeyData → List Row
key_table k = first_table (first_part k) ++ key_target k.sizes k.slices.y

parts_laws : OpeningLaws (level_at FIRST) (λ (p : First × List ℕ). first_fields p.0 ++ target_fields p.1) (λ p. ValidFirst p.0 × ValidTarget p.0.sizes p.1) (λ p. key_table (together p)) key_rows_at NotTarget (λ p. p.0.sizes)
parts_laws =
    followed (level_at FIRST) first_fields ValidFirst first_table first_rows_at Any (λ k. k.sizes)
    target_fields ValidTarget key_target target_rows NotTarget first-laws (λ key h. target-laws _ (omega (arith, (bounds key h).target))) (λ key y v rest m. tt) (λ e. omega (arith, e))

-- a key that the tests of its fields do not refuse: within the limits, but for its rows
abbrev pub KeyPasses : KeyData → Type 0
KeyPasses k = ValidFirst (first_part k) × ValidTarget k.sizes k.slices.y

pub key_laws : OpeningLaws (level_at FIRST) key_fields KeyPasses key_table key_rows_at NotTarget (λ k. k.sizes)
unfolding parts_laws
key_laws = record {
  laws = record {
    fits = λ k v. parts_laws.laws.fits (apart k) v;
    bytes = λ k v. parts_laws.laws.bytes (apart k) v;
    there = λ pre rest m k v. parts_laws.laws.there pre rest m (apart k) v;
    read = λ s b at e. let r = parts_laws.laws.read s b at e in (together r.0, r.1, r.2);
    single = λ x y v w e. ap together (parts_laws.laws.single (apart x) (apart y) v w e);
  };
  sized = λ k v. v.0.sized;
  starts = λ pre rest k v. parts_laws.starts pre rest (apart k) v;
  told = parts_laws.told;
}

-- the elements of H in bytes that begin with the key's fields
matrix-there : (k : KeyData) → KeyPasses k → (rest : List ℕ) → matrix_of (level_at FIRST) (joined (key_fields k) ++ rest) ≡ k.slices.h
unfolding joined
matrix-there k v rest =
    let c = word_bytes k.slices.h in
    let more = joined ((0x03, word_bytes k.slices.x) ∷ target_fields k.slices.y) in
    let len = 2 * (lengths (level_at FIRST) k.sizes).matrix in
    ap (λ s. words (take len s)) (append_assoc c more rest)
    ∙ ap words (take_at c (more ++ rest) len (bytes-length k.slices.h ∙ ap (λ n. 2 * n) v.0.h.0))
    ∙ words-bytes k.slices.h

-- 15 is told by the key, whatever bytes or fields follow its own
pub rest-leans : (k : KeyData) → KeyPasses k → (rest : List ℕ) → leans (level_at FIRST) (joined (key_fields k) ++ rest) ≡ short (level_at FIRST) k.sizes.n k.sizes.m k.slices.h
unfolding joined
rest-leans k v rest = ap (short (level_at FIRST) k.sizes.n k.sizes.m) (matrix-there k v rest)

pub key-leans : (k : KeyData) → KeyPasses k → (more : List (ℕ × List ℕ)) → leans (level_at FIRST) (joined (key_fields k ++ more)) ≡ short (level_at FIRST) k.sizes.n k.sizes.m k.slices.h
key-leans k v more = ap (leans (level_at FIRST)) (joined-append (key_fields k) more) ∙ rest-leans k v (joined more)

-- a key within the limits is one that passes and whose rows do not lean on each other
pub valid-passes : (k : KeyData) → ValidKey (level_at FIRST) k → KeyPasses k
valid-passes k v = (record { sized = v.sized; h = v.h; x = v.x }, v.y)

pub valid-stands : (k : KeyData) → ValidKey (level_at FIRST) k → short (level_at FIRST) k.sizes.n k.sizes.m k.slices.h ≡ false
valid-stands k v = pick (short (level_at FIRST) k.sizes.n k.sizes.m k.slices.h) (leaning FIRST k.sizes.n k.sizes.m k.slices.h).0
  where
    pick : (b : Bool) → (b ≡ true → Leaning (level_at FIRST) k.sizes.n k.sizes.m k.slices.h) → b ≡ false
    pick true d = absurd (v.rows (d refl))
    pick false d = refl

pub stands-valid : (k : KeyData) → KeyPasses k → short (level_at FIRST) k.sizes.n k.sizes.m k.slices.h ≡ false → ValidKey (level_at FIRST) k
stands-valid k v e = record {
  sized = v.0.sized;
  h = v.0.h;
  x = v.0.x;
  y = v.1;
  rows = λ d. true≢false (sym ((leaning FIRST k.sizes.n k.sizes.m k.slices.h).1 d) ∙ e);
}
