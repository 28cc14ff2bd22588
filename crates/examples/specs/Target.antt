-- Examples of a key with a target: what the definitions give, beside what is worked out by hand. None of them is a starred one.
use Rattle.std.specs.Prelude.{List, [], ◌∷◌}
use Rattle.refusal.specs.Answer.{number_of}
use Rattle.key.specs.Key.{key_slices}
use Rattle.examples.specs.Starred.{Example, Numbers, bares, t_of, polynomials_of, values_of, prove_of, A}

-- key A with y = 5. "H times x' must equal y": in the order 1 0 it is 2 · 2 + 1 · 1 = 5, in the order 0 1 it is 2 · 1 + 1 · 2 = 0
abbrev pub A₅ : Numbers
A₅ = record { n = 2; m = 1; lent = key_slices (2 ∷ 1 ∷ []) (1 ∷ 2 ∷ []) (5 ∷ []); v = 1 ∷ 4 ∷ []; u = 1 ∷ 0 ∷ []; r = []; s = []; α = 1 ∷ 2 ∷ 1 ∷ [] }

abbrev pub targets : List Example
targets =
    -- positions 1 0: t = 0 0; polynomials 5, 5, 10, tops all 0
    record { given = t_of A₅ (1 ∷ 0 ∷ []); stated = 0 ∷ 0 ∷ [] }
    ∷ record { given = polynomials_of A₅ (1 ∷ 0 ∷ []); stated = bares (5 ∷ 0 ∷ 5 ∷ 0 ∷ 10 ∷ 0 ∷ []) }
    -- without the target the last of them is 5 X + 10
    ∷ record { given = polynomials_of A (1 ∷ 0 ∷ []); stated = bares (5 ∷ 0 ∷ 5 ∷ 0 ∷ 10 ∷ 5 ∷ []) }
    -- Δ = 2, q = 3, 4: values 5, 5, 10; without the target the last is 5 · 2 + 10 = 0
    ∷ record { given = values_of A₅ (0 ∷ 0 ∷ []) (3 ∷ 4 ∷ []) 2; stated = bares (5 ∷ 5 ∷ 10 ∷ []) }
    ∷ record { given = values_of A (0 ∷ 0 ∷ []) (3 ∷ 4 ∷ []) 2; stated = bares (5 ∷ 5 ∷ 0 ∷ []) }
    -- prove is done, with a = 5; in the order 0 1 it answers 8
    ∷ record { given = number_of (prove_of A₅ (1 ∷ 0 ∷ [])).0 ∷ []; stated = 0 ∷ [] }
    ∷ record { given = (prove_of A₅ (1 ∷ 0 ∷ [])).1.1; stated = bares (5 ∷ []) }
    ∷ record { given = number_of (prove_of A₅ (0 ∷ 1 ∷ [])).0 ∷ []; stated = 8 ∷ [] }
    ∷ []
