use Rattle.examples.proofs.read_back.Goals as goal

pub slice_bounds-read_package-end : goal.slice_bounds-read_package-end
slice_bounds-read_package-end c = (c.write_package.ensures.reads c.in-Ok.len c.in-Ok.is).fits
