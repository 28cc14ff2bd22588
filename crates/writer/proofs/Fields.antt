-- Fields put one after the other into a list.
use mathlib.Core.Path.{◌≡◌, sym, ap, ◌∙◌}
use mathlib.Core.List.{List, [], ◌∷◌, ◌++◌, append-nil}
use Prim.Native.Nat.{ℕ, ◌+◌, ◌*◌, ◌≤◌}
use native.Mathlib.Omega.{arith}
use lib.ListN.{length, length-append}
use Rattle.lists.specs.Words.{put}
use Rattle.copying.specs.Words.{two_bytes, word_bytes}
use Rattle.copying.proofs.Bytes.{bytes-length}
use Rattle.copying.proofs.Filled.{Stands, stands-next}
use Rattle.key.specs.declared.Key.{Key}
use Rattle.key.specs.Key.{key_slices}
use Rattle.package.specs.Written.{joined, serial_bytes, target_fields, key_fields, group_fields}
use Rattle.package.proofs.Joined.{joined-append}

-- how many bytes a field and those after it have
pub joined_length : (tag : ℕ) (c : List ℕ) (fields : List (ℕ × List ℕ)) → length (joined ((tag, c) ∷ fields)) ≡ 3 + length c + length (joined fields)
unfolding joined
joined_length tag c fields = omega (arith, length-append ((tag ∷ two_bytes (length c)) ++ c) (joined fields), length-append (tag ∷ two_bytes (length c)) c)

pub field_length : (tag : ℕ) (c : List ℕ) → length (joined ((tag, c) ∷ [])) ≡ 3 + length c
unfolding joined
field_length tag c = omega (arith, joined_length tag c [])

-- how many bytes three fields have
pub three-length : (f g h : ℕ × List ℕ) → length (joined (f ∷ g ∷ h ∷ [])) ≡ length (joined (f ∷ [])) + length (joined (g ∷ [])) + length (joined (h ∷ []))
three-length f g h = omega (arith, joined_length f.0 f.1 (g ∷ h ∷ []), joined_length g.0 g.1 (h ∷ []), field_length f.0 f.1, field_length g.0 g.1)

-- a field of words
pub words-length : (tag : ℕ) (s : List ℕ) → length (joined ((tag, word_bytes s) ∷ [])) ≡ 3 + 2 * length s
words-length tag s = omega (arith, field_length tag (word_bytes s), bytes-length s)

-- the fields that every key has, and all of a key
abbrev pub sizes_field : Key → ℕ × List ℕ
sizes_field key = (0x01, key.n ∷ key.m ∷ [])

abbrev pub first_fields : Key → (h x : List ℕ) → List (ℕ × List ℕ)
first_fields key h x = sizes_field key ∷ (0x02, word_bytes h) ∷ (0x03, word_bytes x) ∷ []

pub key-length : (key : Key) (h x y : List ℕ) → length (joined (key_fields (record { sizes = key; slices = key_slices h x y })))
    ≡ length (joined (sizes_field key ∷ [])) + length (joined ((0x02, word_bytes h) ∷ [])) + length (joined ((0x03, word_bytes x) ∷ [])) + length (joined (target_fields y))
key-length key h x y = omega (arith, ap length (joined-append (first_fields key h x) (target_fields y)), length-append (joined (first_fields key h x)) (joined (target_fields y)), three-length (sizes_field key) (0x02, word_bytes h) (0x03, word_bytes x))

-- all of a group
abbrev pub serial_field : ℕ → ℕ × List ℕ
serial_field serial = (0x05, serial_bytes serial)

pub group-length : (serial : ℕ) (t a : List ℕ) → length (joined (group_fields (record { serial = serial; t = t; a = a }))) ≡ length (joined (serial_field serial ∷ [])) + length (joined ((0x06, t) ∷ [])) + length (joined ((0x07, word_bytes a) ∷ []))
group-length serial t a = three-length (serial_field serial) (0x06, t) (0x07, word_bytes a)

-- a field is its head and its content
pub field_is : (tag : ℕ) (c : List ℕ) → (tag ∷ two_bytes (length c)) ++ c ≡ joined ((tag, c) ∷ [])
unfolding joined
field_is tag c = sym (append-nil ((tag ∷ two_bytes (length c)) ++ c))

-- a head of this length, and then the content
pub field_put : (s : List ℕ) (tag n : ℕ) (c : List ℕ) (at : ℕ) {i j : ℕ} {t u : List ℕ} → n ≡ length c → at + length (joined ((tag, c) ∷ [])) ≤ length s
    → t ≡ put at (tag ∷ two_bytes n) s → i ≡ at + 3 → u ≡ put i c t → j ≡ i + length c
    → (u ≡ put at (joined ((tag, c) ∷ [])) s) × (j ≡ at + length (joined ((tag, c) ∷ [])))
field_put s tag n c at e h f g p q =
    let size = field_length tag c in
    let head : Stands s at (tag ∷ two_bytes (length c)) _ _ = record { is = f ∙ ap (λ k. put at (tag ∷ two_bytes k) s) e; end = g } in
    let w = stands-next c head (omega arith) p q in
    (w.is ∙ ap (λ b. put at b s) (field_is tag c), w.end ∙ ap (λ b. at + length b) (field_is tag c))

-- fields after others
pub fields-next : {s t u : List ℕ} {at i j : ℕ} (fields more : List (ℕ × List ℕ)) → Stands s at (joined fields) t i → i + length (joined more) ≤ length s
    → (u ≡ put i (joined more) t) × (j ≡ i + length (joined more)) → Stands s at (joined (fields ++ more)) u j
fields-next {s} {at = at} fields more w h e =
    let v = stands-next (joined more) w h e.0 e.1 in
    record { is = v.is ∙ ap (λ b. put at b s) (sym (joined-append fields more)); end = v.end ∙ ap (λ b. at + length b) (sym (joined-append fields more)) }
