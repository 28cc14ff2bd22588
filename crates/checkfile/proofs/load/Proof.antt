use mathlib.Core.Path.{◌≡◌, ap, ◌∙◌}
use mathlib.Core.List.{List}
use Prim.Native.Nat.{ℕ}
use Rattle.lists.specs.Words.{put}
use Rattle.copying.specs.Words.{words}
use Rattle.field.specs.Level.{FIRST, level_at}
use Rattle.checkfile.specs.Checking.{content}
use Rattle.checkfile.proofs.Joined.{content-is}
use borrow.Author.Rules.{rules}
use Rattle.checkfile.proofs.load.Statement.{statement}
use Rattle.checkfile.proofs.load.Tie as tie

is : (c : tie.After-content) → let a = c.args in c.content.result.now ≡ content (level_at FIRST) a.bytes.now a.tag
is c = let a = c.args in content-is c.content.result a.bytes a.tag c.requires.0 c.content.ensures

content-requires : tie.Need-content-requires
content-requires c κs = search rules

words_into-requires : tie.Need-words_into-requires
words_into-requires c κs = rw (is c.before) c.requires.1

shape_of-out : tie.Need-shape_of-out
shape_of-out c = search rules

returns : tie.Need-returns
returns c =
    let e = c.words_into.ensures in
    (e.0 ∙ ap words (is c.before.before.before.before), e.1, e.2, e.3 ∙ ap (λ (w : List ℕ). put 0 w c.args.out.now) (ap words (is c.before.before.before.before)))

pub load_spec : {M : Type 1} → statement M
load_spec =
    tie.close
    (tie.spec
    content-requires
    words_into-requires
    shape_of-out
    returns)
