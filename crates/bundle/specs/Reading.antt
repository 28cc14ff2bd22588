-- What the entry read_bundle answers for any bytes.
use Rattle.std.specs.Prelude.{List, ℕ, length, Result, Ok, Err}
use Rattle.refusal.specs.declared.Refusal.{Refusal}
use Rattle.refusal.specs.Answer.{Answer, first_of, number_of as number}
use Rattle.field.specs.declared.Level.{Level}
use Rattle.layout.specs.Tests.{key_of}
use Rattle.bundle.specs.declared.Contents.{Contents}
use Rattle.bundle.specs.declared.Groups.{Groups}
use Rattle.bundle.specs.Bundle.{starts, bundle_tests}

-- the paper's number of each answer: 0 is no refusal, and comes with n, m and the number of groups
abbrev pub number_of : Result Contents Refusal → ℕ
number_of answer = number answer

-- "answers n, m and the number of groups", or the refusal
abbrev pub read_as : Answer → Contents → Result Contents Refusal
read_as (Ok _) c = Ok c
read_as (Err r) c = Err r

abbrev pub reading : Level → List ℕ → Result Contents Refusal
reading l s = read_as (first_of (bundle_tests l s)) (record { n = (key_of s).n; m = (key_of s).m; groups = length (starts l s) })

-- what the functions that read groups answer: where these start and how many they are, or the refusal; inner data, no part of the promise
abbrev pub found : Answer → (start number : ℕ) → Result Groups Refusal
found (Ok _) start number = Ok (record { start = start; number = number })
found (Err r) start number = Err r
