use Rattle.row.proofs.elements.add_at.Goals as goal

pub returns : goal.returns
returns c y h =
    let p = c.put.ensures _ (c.plus.ensures _ y c.get-old.ensures h) in
    record { same = p.same; words = p.words; holds = p.holds }
