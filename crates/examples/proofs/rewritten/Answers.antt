use mathlib.Core.Path.{sym, ap, ap₂, ◌∙◌}
use native.Mathlib.Omega.{arith}
use lib.ListN.{length, take, replicate}
use lib.Seq.{length-take-le}
use Rattle.lists.specs.Words.{put}
use Rattle.copying.specs.Words.{Bytes, words}
use Rattle.field.specs.Level.{FIRST, level_at}
use Rattle.key.specs.declared.Key.{Key}
use Rattle.key.specs.Key.{key_slices}
use Rattle.package.specs.Written.{package_form}
use Rattle.package.proofs.Rooms.{rows, matrix, vector, target, target-put, proof}
use Rattle.writer.specs.Entry.{write_outcome}
use Rattle.examples.proofs.Packages.{limits, key-said, serial-said}
use Rattle.examples.proofs.rewritten.Goals as goal

pub words_into-h_len-requires : goal.words_into-h_len-requires
words_into-h_len-requires c = omega (arith, ap (λ b. length (words b)) c.field.ensures.bytes, matrix (package_form (level_at FIRST)) c.args.bytes.now (limits c.args.bytes.now (λ i. omega (arith, c.type_inv.bytes i)) c.args.contents c.requires).0)

pub words_into-x_len-requires : goal.words_into-x_len-requires
words_into-x_len-requires c = omega (arith, ap (λ b. length (words b)) c.field-2.ensures.bytes, vector (package_form (level_at FIRST)) c.args.bytes.now (limits c.args.bytes.now (λ i. omega (arith, c.type_inv.bytes i)) c.args.contents c.requires).0)

pub words_into-requires : goal.words_into-requires
words_into-requires c = omega (arith, ap (λ b. length (words b)) c.field-3.ensures.bytes, target (package_form (level_at FIRST)) c.args.bytes.now (limits c.args.bytes.now (λ i. omega (arith, c.type_inv.bytes i)) c.args.contents c.requires).0)

pub words_into-a_len-requires : goal.words_into-a_len-requires
words_into-a_len-requires c =
    let v = limits c.args.bytes.now (λ i. omega (arith, c.type_inv.bytes i)) c.args.contents c.requires in
    omega (arith, ap (λ b. length (words b)) c.field-4.ensures.bytes, proof (package_form (level_at FIRST)) c.args.bytes.now v.0 v.1)

pub slice_bounds-y-end : goal.slice_bounds-y-end
slice_bounds-y-end c =
    let bytes = c.args.bytes.now in
    let b : Bytes bytes = λ i. omega (arith, c.type_inv.bytes i) in
    omega (arith, rows (package_form (level_at FIRST)) bytes (limits bytes b c.args.contents c.requires).0, ap (λ (k : Key). k.m) (key-said bytes b c.args.contents c.requires))

pub slice_bounds-lent-end-3 : goal.slice_bounds-lent-end-3
slice_bounds-lent-end-3 c =
    let bytes = c.args.bytes.now in
    let b : Bytes bytes = λ i. omega (arith, c.type_inv.bytes i) in
    sym (length-take-le _ _ (omega (arith, rows (package_form (level_at FIRST)) bytes (limits bytes b c.args.contents c.requires).0, ap (λ (k : Key). k.m) (key-said bytes b c.args.contents c.requires))))

pub returns : goal.returns
returns c =
    let bytes = c.args.bytes.now in
    let b : Bytes bytes = λ i. omega (arith, c.type_inv.bytes i) in
    let key = key-said bytes b c.args.contents c.requires in
    let h = c.words_into-h_len.ensures.0 ∙ ap words c.field.ensures.bytes in
    let x = c.words_into-x_len.ensures.0 ∙ ap words c.field-2.ensures.bytes in
    let y = ap₂ take (ap (λ (k : Key). k.m) key) (c.words_into.ensures.3 ∙ ap (λ c. put 0 (words c) (replicate 63 0)) c.field-3.ensures.bytes) ∙ target-put (package_form (level_at FIRST)) bytes (limits bytes b c.args.contents c.requires).0 in
    let a = c.words_into-a_len.ensures.0 ∙ ap words c.field-4.ensures.bytes in
    let t = c.field-t.ensures.bytes in
    let serial = serial-said bytes b c.args.contents c.requires in
    c.write_package.ensures.outcome ∙ (λ i. write_outcome (level_at FIRST) (key i) (key_slices (h i) (x i) (y i)) (serial i) (t i) (a i) c.args.out.now)
