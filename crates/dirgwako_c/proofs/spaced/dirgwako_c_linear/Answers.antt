use Rattle.std.proofs.Common.{length, sym, ap, ◌∙◌}
use Rattle.std.proofs.lemmas.List.FromFn.{length-map-range_with_len}
use Rattle.dirgwako.specs.Spaced.{linear_at}
use Rattle.dirgwako_c.proofs.spaced.dirgwako_c_linear.Goals as goal

pub copy_from_slice-requires : goal.copy_from_slice-requires
copy_from_slice-requires c = sym (ap length (c.as_slice.ensures.bounds ∙ c.in-Ok.ensures.bounds)
    ∙ length-map-range_with_len (linear_at c.args.start c.args.width) 0 (length c.args.bounds.now))
