use Rattle.examples.proofs.joined_back.Goals as goal

pub slice_bounds-read_bundle-end : goal.slice_bounds-read_bundle-end
slice_bounds-read_bundle-end c = (c.join_bundles.ensures.reads c.in-Ok.size c.in-Ok.is).fits
