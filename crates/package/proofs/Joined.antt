-- Fields one after the other, for any table of rows: what is written is read back, and what is read is what was written.
use mathlib.Core.Path.{◌≡◌, refl, sym, ap, ap₂, ◌∙◌, subst}
use mathlib.Core.Bool.{Bool, true, false, not, cond}
use mathlib.Core.List.{List, [], ◌∷◌, ◌++◌, append_assoc, append-nil}
use Prim.Native.Nat.{ℕ, suc, ◌+◌, ◌-◌, ◌*◌, ◌/◌, ◌%◌, ◌<◌}
use native.Mathlib.Nat.{add_assoc}
use native.Mathlib.Numerals.{add-three, towards_suc}
use native.Mathlib.Omega.{arith}
use borrow.Author.Tests.{le-ltb, eq-eqb}
use lib.Dec.{eqb}
use lib.ListN.{length, get_or, take, drop, length-append, take-append-drop}
use lib.Seq.{get_or-append_seam, get_or-append-add, drop-append-add, drop-cons, drop-drop, take_at}
use Rattle.lists.specs.Words.{part}
use Rattle.lists.proofs.Words.{part_length}
use Rattle.copying.specs.Words.{Bytes, word, two_bytes}
use Rattle.copying.proofs.Bytes.{word_lt, bytes-part, bytes-cons, bytes-append, two_bytes_lem}
use Rattle.refusal.proofs.Answers.{None}
use Rattle.field.specs.declared.Level.{Level}
use Rattle.layout.specs.declared.Row.{Row}
use Rattle.layout.specs.Tests.{value_tests, row_tests, tests, after, part_of}
use Rattle.layout.proofs.Rows.{Passed, passed, none-append, none-join}
use Rattle.package.specs.Written.{joined, content_of}

-- a content that a row takes
pub record Fit (l : Level) (row : Row) (g : ℕ) (c : List ℕ) : Type 0 where
  pub tag : g ≡ row.tag
  pub len : length c ≡ row.len
  pub short : row.len < 65536
  pub values : None (value_tests l row.kind c)

abbrev pub Fits : Level → List Row → List (ℕ × List ℕ) → Type 0
Fits l [] [] = Unit {0}
Fits l [] (f ∷ fields) = ⊥
Fits l (row ∷ rows) [] = ⊥
Fits l (row ∷ rows) ((tag, c) ∷ fields) = Fit l row tag c × Fits l rows fields

-- the fields that stand at a position, by the table
unfoldable pub cut : List ℕ → ℕ → List Row → List (ℕ × List ℕ)
cut s at [] = []
cut s at (row ∷ rows) = (row.tag, part (at + 3) row.len s) ∷ cut s (at + 3 + row.len) rows

-- the same content, and the same fields after it
pub same : (tag : ℕ) {c d : List ℕ} {fields others : List (ℕ × List ℕ)} → c ≡ d → fields ≡ others → (tag, c) ∷ fields ≡ (tag, d) ∷ others
same tag e f = ap₂ (λ (c : List ℕ) (rest : List (ℕ × List ℕ)). (tag, c) ∷ rest) e f

-- one table after another
pub fits-append : (l : Level) (rows others : List Row) (fields more : List (ℕ × List ℕ)) → Fits l rows fields → Fits l others more → Fits l (rows ++ others) (fields ++ more)
fits-append l [] others [] more v w = w
fits-append l [] others (f ∷ fields) more v w = absurd v
fits-append l (row ∷ rows) others [] more v w = absurd v
fits-append l (row ∷ rows) others ((tag, c) ∷ fields) more v w = (v.0, fits-append l rows others fields more v.1 w)

pub fits-length : (l : Level) (rows : List Row) (fields : List (ℕ × List ℕ)) → Fits l rows fields → length fields ≡ length rows
fits-length l [] [] w = refl
fits-length l [] (f ∷ fields) w = absurd w
fits-length l (row ∷ rows) [] w = absurd w
fits-length l (row ∷ rows) ((tag, c) ∷ fields) w = ap suc (fits-length l rows fields w.1)

pub cut-append : (s : List ℕ) (at : ℕ) (rows others : List Row) → cut s at (rows ++ others) ≡ cut s at rows ++ cut s (after at rows) others
unfolding cut after
cut-append s at [] others = refl
cut-append s at (row ∷ rows) others = ap (λ fields. (row.tag, part (at + 3) row.len s) ∷ fields) (cut-append s (at + 3 + row.len) rows others)

pub joined-append : (fields more : List (ℕ × List ℕ)) → joined (fields ++ more) ≡ joined fields ++ joined more
unfolding joined
joined-append [] more = refl
joined-append ((tag, c) ∷ fields) more = ap (λ t. (tag ∷ two_bytes (length c)) ++ c ++ t) (joined-append fields more) ∙ sym (append_assoc ((tag ∷ two_bytes (length c)) ++ c) (joined fields) (joined more))

pub after-joined : (l : Level) (at : ℕ) (rows : List Row) (fields : List (ℕ × List ℕ)) → Fits l rows fields → after at rows ≡ at + length (joined fields)
unfolding after joined
after-joined l at [] [] w = omega arith
after-joined l at [] (f ∷ fields) w = absurd w
after-joined l at (row ∷ rows) [] w = absurd w
after-joined l at (row ∷ rows) ((tag, c) ∷ fields) w =
    omega (arith, after-joined l (at + 3 + row.len) rows fields w.1, w.0.len, length-append ((tag ∷ two_bytes (length c)) ++ c) (joined fields), length-append (tag ∷ two_bytes (length c)) c)

-- the part of a tag is the content of the field with it
pub part_cut : (s : List ℕ) (tag at : ℕ) (rows : List Row) → part (part_of tag at rows).start (part_of tag at rows).len s ≡ content_of tag (cut s at rows)
unfolding part_of content_of cut
part_cut s tag at [] = refl
part_cut s tag at (row ∷ rows) = pick (eqb row.tag tag) (part_cut s tag (at + 3 + row.len) rows)
  where
    pick : (b : Bool) → part (part_of tag (at + 3 + row.len) rows).start (part_of tag (at + 3 + row.len) rows).len s ≡ content_of tag (cut s (at + 3 + row.len) rows)
        → (let p = cond b (record { start = at + 3; len = row.len }) (part_of tag (at + 3 + row.len) rows) in part p.start p.len s ≡ cond b (part (at + 3) row.len s) (content_of tag (cut s (at + 3 + row.len) rows)))
    pick true later = refl
    pick false later = later

pub content-bytes : (s : List ℕ) → Bytes s → (tag at : ℕ) (rows : List Row) → Bytes (content_of tag (cut s at rows))
content-bytes s b tag at rows = subst Bytes (part_cut s tag at rows) (bytes-part s (part_of tag at rows).start (part_of tag at rows).len b)

-- the tag and the stated length of the field that stands where other bytes end
module _ (pre : List ℕ) (tag n : ℕ) (rest : List ℕ) where
  pub next-tag : get_or (pre ++ (tag ∷ two_bytes n ++ rest)) (length pre) 0 ≡ tag
  next-tag = get_or-append_seam pre tag (two_bytes n ++ rest) 0

  pub next-len : n < 65536 → word (pre ++ (tag ∷ two_bytes n ++ rest)) (length pre + 1) ≡ n
  next-len h =
      let s = pre ++ (tag ∷ two_bytes n ++ rest) in
      let high : get_or s (length pre + 1) 0 ≡ n / 256 = get_or-append-add pre (tag ∷ two_bytes n ++ rest) 1 0 in
      let low : get_or s (length pre + 1 + 1) 0 ≡ n % 256 = rw add_assoc (get_or-append-add pre (tag ∷ two_bytes n ++ rest) 2 0) in
      omega arith

-- a field written after other bytes
module _ (l : Level) (pre : List ℕ) (row : Row) (tag : ℕ) (c rest : List ℕ) (w : Fit l row tag c) where
  abbrev whole : List ℕ
  whole = pre ++ ((tag ∷ two_bytes (length c)) ++ c ++ rest)

  abbrev longer : List ℕ
  longer = pre ++ ((tag ∷ two_bytes (length c)) ++ c)

  longer-rest : longer ++ rest ≡ whole
  longer-rest = append_assoc pre ((tag ∷ two_bytes (length c)) ++ c) rest

  longer-length : length longer ≡ length pre + 3 + row.len
  longer-length = omega (arith, length-append pre ((tag ∷ two_bytes (length c)) ++ c), w.len)

  content-there : part (length pre + 3) row.len whole ≡ c
  content-there = ap (take row.len) (drop-append-add pre ((tag ∷ two_bytes (length c)) ++ c ++ rest) 3) ∙ take_at c rest row.len w.len

  row-there : None (row_tests l whole (length pre) row)
  unfolding row_tests
  row-there =
      let size = length-append pre ((tag ∷ two_bytes (length c)) ++ c ++ rest) in
      let body = length-append c rest in
      let len = w.len in
      let short = w.short in
      let word_len : word whole (length pre + 1) ≡ row.len = next-len pre tag (length c) (c ++ rest) (omega arith) ∙ len in
      (le-ltb (length whole - length pre) 3 (omega arith), (ap not (eq-eqb _ _ (next-tag pre tag (length c) (c ++ rest) ∙ w.tag)), (ap not (eq-eqb _ _ word_len), (le-ltb (length whole - (length pre + 3)) row.len (omega arith), subst (λ b. None (value_tests l row.kind b)) (sym content-there) w.values))))

-- tags and contents of bytes
abbrev pub AllBytes : List (ℕ × List ℕ) → Type 0
AllBytes [] = Unit {0}
AllBytes ((tag, c) ∷ fields) = (tag < 256) × Bytes c × AllBytes fields

pub all_append : (fields others : List (ℕ × List ℕ)) → AllBytes fields → AllBytes others → AllBytes (fields ++ others)
all_append [] others b d = d
all_append ((tag, c) ∷ fields) others b d = (b.0, b.1, all_append fields others b.2 d)

pub joined_bytes : (l : Level) (rows : List Row) (fields : List (ℕ × List ℕ)) → Fits l rows fields → AllBytes fields → Bytes (joined fields)
unfolding joined
joined_bytes l [] [] w b = λ i. omega arith
joined_bytes l [] (f ∷ fields) w b = absurd w
joined_bytes l (row ∷ rows) [] w b = absurd w
joined_bytes l (row ∷ rows) ((tag, c) ∷ fields) w b =
    bytes-append ((tag ∷ two_bytes (length c)) ++ c) (joined fields)
    (bytes-append (tag ∷ two_bytes (length c)) c (bytes-cons tag (two_bytes (length c)) b.0 (two_bytes_lem (length c) (omega (arith, w.0.len, w.0.short)))) b.1)
    (joined_bytes l rows fields w.1 b.2)

-- fields that stand where other bytes end, whatever follows them: none is refused, and they are the fields written
pub read-there : (l : Level) (pre : List ℕ) (rows : List Row) (fields : List (ℕ × List ℕ)) (rest : List ℕ) → Fits l rows fields
    → let s = pre ++ (joined fields ++ rest) in None (tests l s (length pre) rows) × (cut s (length pre) rows ≡ fields)
unfolding tests cut joined
read-there l pre [] [] rest w = (tt, refl)
read-there l pre [] (f ∷ fields) rest w = absurd w
read-there l pre (row ∷ rows) [] rest w = absurd w
read-there l pre (row ∷ rows) ((tag, c) ∷ fields) rest w =
    let more = joined fields ++ rest in
    let s = whole l pre row tag c more w.0 in
    let There : List ℕ → ℕ → Type 0 = λ s at. None (tests l s at rows) × (cut s at rows ≡ fields) in
    let later = read-there l (longer l pre row tag c more w.0) rows fields rest w.1 in
    let here : There s (length pre + 3 + row.len) =
    subst (There s) (longer-length l pre row tag c more w.0) (subst (λ s. There s (length (longer l pre row tag c more w.0))) (longer-rest l pre row tag c more w.0) later) in
    let split : s ≡ pre ++ (((tag ∷ two_bytes (length c)) ++ c ++ joined fields) ++ rest) = ap (λ t. pre ++ t) (sym (append_assoc ((tag ∷ two_bytes (length c)) ++ c) (joined fields) rest)) in
    subst (λ s. None (tests l s (length pre) (row ∷ rows)) × (cut s (length pre) (row ∷ rows) ≡ (tag, c) ∷ fields)) split (
      none-join (row_tests l s (length pre) row) _ (row-there l pre row tag c more w.0) here.0,
      ap₂ ◌∷◌ (ap₂ (λ (g : ℕ) (b : List ℕ). (g, b)) (sym w.0.tag) (content-there l pre row tag c more w.0)) here.1,
    )

-- what is written is read back: no field is refused, they end with the bytes, and they are the fields written
pub record Back (l : Level) (s : List ℕ) (at : ℕ) (rows : List Row) (fields : List (ℕ × List ℕ)) : Type 0 where
  pub accepted : None (tests l s at rows)
  pub ends : after at rows ≡ length s
  pub same : cut s at rows ≡ fields

pub read_back : (l : Level) (pre : List ℕ) (rows : List Row) (fields : List (ℕ × List ℕ)) → Fits l rows fields → Back l (pre ++ joined fields) (length pre) rows fields
read_back l pre rows fields w =
    let there = subst (λ t. None (tests l (pre ++ t) (length pre) rows) × (cut (pre ++ t) (length pre) rows ≡ fields)) (append-nil (joined fields)) (read-there l pre rows fields [] w) in
    record { accepted = there.0; ends = after-joined l (length pre) rows fields w ∙ sym (length-append pre (joined fields)); same = there.1 }

-- what is read is what was written
module _ (l : Level) (s : List ℕ) (b : Bytes s) where
  row_split : (at : ℕ) (row : Row) → Passed l s at row → drop at s ≡ (row.tag ∷ two_bytes row.len) ++ part (at + 3) row.len s ++ drop (at + 3 + row.len) s
  row_split at row w =
      let fits = w.fits in
      let h₀ : at < length s = omega arith in
      let h₁ : suc at < length s = omega arith in
      let h₂ : suc (suc at) < length s = omega arith in
      let len : get_or s (suc at) 0 * 256 + get_or s (suc (suc at)) 0 ≡ row.len = simp towards_suc at w.len in
      let high : get_or s (suc at) 0 ≡ row.len / 256 = omega (arith, b (suc (suc at))) in
      let low : get_or s (suc (suc at)) 0 ≡ row.len % 256 = omega (arith, b (suc (suc at))) in
      let tail : drop (suc (suc (suc at))) s ≡ part (at + 3) row.len s ++ drop (at + 3 + row.len) s =
      ap (λ (i : ℕ). drop i s) (sym (add-three at)) ∙ sym (take-append-drop row.len (drop (at + 3) s)) ∙ rw drop-drop in
      rw (drop-cons s at 0 h₀, drop-cons s (suc at) 0 h₁, drop-cons s (suc (suc at)) 0 h₂) (cc (w.tag, high, low, tail))

  content-length : (at : ℕ) (row : Row) → Passed l s at row → length (part (at + 3) row.len s) ≡ row.len
  content-length at row w = part_length (at + 3) row.len s w.fits

  pub exact : (at : ℕ) (rows : List Row) → None (tests l s at rows) → drop at s ≡ joined (cut s at rows) ++ drop (after at rows) s
  unfolding tests after cut joined
  exact at [] e = refl
  exact at (row ∷ rows) e =
      let both = none-append (row_tests l s at row) (tests l s (at + 3 + row.len) rows) e in
      let w = passed l s at row both.0 in
      let c = part (at + 3) row.len s in
      let later = exact (at + 3 + row.len) rows both.1 in
      row_split at row w
      ∙ ap₂ (λ (n : ℕ) (t : List ℕ). (row.tag ∷ two_bytes n) ++ c ++ t) (sym (content-length at row w)) later
      ∙ sym (append_assoc ((row.tag ∷ two_bytes (length c)) ++ c) (joined (cut s (at + 3 + row.len) rows)) (drop (after (at + 3 + row.len) rows) s))

  pub cut_fits : (at : ℕ) (rows : List Row) → None (tests l s at rows) → Fits l rows (cut s at rows)
  unfolding tests cut
  cut_fits at [] e = tt
  cut_fits at (row ∷ rows) e =
      let both = none-append (row_tests l s at row) (tests l s (at + 3 + row.len) rows) e in
      let w = passed l s at row both.0 in
      (record { tag = refl; len = content-length at row w; short = omega (arith, w.len, word_lt s (at + 1) b); values = w.values }, cut_fits (at + 3 + row.len) rows both.1)
