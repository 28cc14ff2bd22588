use Rattle.folding.proofs.values.fold.Goals as goal

pub returns : goal.returns
returns c y v t h =
    let p = c.put.ensures _ (c.plus-2.ensures _ v (c.times-product.ensures y _ t (c.plus.ensures _ _ c.get-low.ensures c.get-high.ensures)) h) in
    record { same = p.same; words = p.words; holds = p.holds }
