-- The readers' answers as the C interface gives them.
use Rattle.std.specs.Prelude.{ℕ, ◌<◌, Result, Ok, Err}
use Rattle.refusal.specs.declared.Refusal.{Refusal}
use Rattle.refusal.specs.Answer.{number_of}
use Rattle.layout.specs.declared.Part.{Part}
use Rattle.package.specs.declared.Contents.{Contents}
use Rattle.bundle.specs.declared.Contents.{Contents as Groups}

-- n, m and the serial of an answer; on a refusal what was there before
abbrev pub contents_or : Result Contents Refusal → ℕ × ℕ × ℕ → ℕ × ℕ × ℕ
contents_or (Ok c) old = (c.n, c.m, c.serial)
contents_or (Err r) old = old

-- the number of an answer, and what is left in the three outputs
abbrev pub read_put : Result Contents Refusal → ℕ × ℕ × ℕ → ℕ × (ℕ × ℕ × ℕ)
read_put answer old = (number_of answer, contents_or answer old)

-- n and m of an answer are numbers of 32 bits
abbrev pub SmallSizes : Result Contents Refusal → Type 0
SmallSizes (Ok c) = (c.n < 4294967296) × (c.m < 4294967296)
SmallSizes (Err r) = Unit {0}

-- the same of the reader of bundles, with the number of groups
abbrev pub groups_or : Result Groups Refusal → ℕ × ℕ × ℕ → ℕ × ℕ × ℕ
groups_or (Ok c) old = (c.n, c.m, c.groups)
groups_or (Err r) old = old

abbrev pub bundle_put : Result Groups Refusal → ℕ × ℕ × ℕ → ℕ × (ℕ × ℕ × ℕ)
bundle_put answer old = (number_of answer, groups_or answer old)

abbrev pub SmallBundle : Result Groups Refusal → Type 0
SmallBundle (Ok c) = (c.n < 4294967296) × (c.m < 4294967296)
SmallBundle (Err r) = Unit {0}

-- the length and the start of a part
abbrev pub span_of : Part → ℕ × ℕ
span_of p = (p.len, p.start)
