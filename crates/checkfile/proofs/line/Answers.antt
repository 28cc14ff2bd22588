use native.Mathlib.Omega.{arith}
use Prim.Native.Nat.{ℕ}
use mathlib.Core.Path.{◌≡◌, sym, ap, subst, ◌∙◌}
use mathlib.Core.List.{[], ◌∷◌, ◌++◌}
use Rattle.std.specs.Prelude.{Result, Ok, Err}
use Rattle.refusal.specs.declared.Refusal.{Refusal}
use Rattle.refusal.specs.declared.Verdict.TheVariants.{Accepted, Rejected}
use Rattle.refusal.specs.Answer.{number}
use Rattle.checkfile.specs.declared.Checked.{Checked}
use Rattle.checkfile.specs.Line.{accepted_text, rejected_text, refused_text, decimal, said_of, line_of, printed}
use Rattle.copying.proofs.Filled.{Stands, stands-first}
use Rattle.checkfile.proofs.Text.{stands_more, line_printed, line_short, printed-fits}
use Rattle.checkfile.proofs.line.Goals as goal

pub returns-then-out-lt-LINE : goal.returns-then-out-lt-LINE
returns-then-out-lt-LINE c = let a = c.args in let p = printed-fits a.checked a.out.now (line_short a.checked a.out.now (omega arith)) in record { printed = p.0; fits = p.1 }

pub returns-in-Accepted : goal.returns-in-Accepted
unfolding line_of
returns-in-Accepted c =
    let s = c.args.out.now in
    let e = c.put_contents-at.ensures in
    let f = c.put_text.ensures in
    let k = c.in-Ok.file.contents in
    let w : Stands s 0 (said_of k) _ _ = stands-first e.0 e.1 in
    let is : Ok (record { contents = k; verdict = Accepted }) ≡ c.args.checked = (λ i. Ok (record { contents = k; verdict = sym c.in-Accepted.is i })) ∙ sym c.in-Ok.is in
    let p = printed-fits c.args.checked s (line_printed (Ok (record { contents = k; verdict = Accepted })) (stands_more accepted_text 10 w (omega arith) f.0 f.1) (omega arith) ∙ ap (λ (k : Result Checked Refusal). printed k s) is) in
    record { printed = p.0; fits = p.1 }

pub returns-in-Rejected : goal.returns-in-Rejected
unfolding line_of
returns-in-Rejected c =
    let s = c.args.out.now in
    let e = c.put_contents-at.ensures in
    let f = c.put_text-in-Rejected.ensures in
    let k = c.in-Ok.file.contents in
    let w : Stands s 0 (said_of k) _ _ = stands-first e.0 e.1 in
    let is : Ok (record { contents = k; verdict = Rejected }) ≡ c.args.checked = (λ i. Ok (record { contents = k; verdict = sym c.in-Rejected.is i })) ∙ sym c.in-Ok.is in
    let p = printed-fits c.args.checked s (line_printed (Ok (record { contents = k; verdict = Rejected })) (stands_more rejected_text 10 w (omega arith) f.0 f.1) (omega arith) ∙ ap (λ (k : Result Checked Refusal). printed k s) is) in
    record { printed = p.0; fits = p.1 }

pub returns-in-Err : goal.returns-in-Err
unfolding line_of
returns-in-Err c =
    let s = c.args.out.now in
    let e = c.put_text-at.ensures in
    let f = c.put_number.ensures in
    let k = c.in-Err.refusal in
    let w : Stands s 0 (refused_text ++ (32 ∷ [])) _ _ = record { is = e.0; end = e.1 } in
    let v = subst (λ (x : ℕ). Stands s 0 ((refused_text ++ (32 ∷ [])) ++ (decimal x ++ (10 ∷ []))) c.put_number.new.out c.put_number.result) c.number.ensures (stands_more (decimal c.number.result) 10 w (omega (arith, f.1, f.2)) f.0 f.1) in
    let p = printed-fits c.args.checked s (line_printed (Err k) v (omega arith) ∙ ap (λ (k : Result Checked Refusal). printed k s) (sym c.in-Err.is)) in
    record { printed = p.0; fits = p.1 }
