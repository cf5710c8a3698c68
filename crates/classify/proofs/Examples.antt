-- The starred examples on routes hold, by computing. Assumes nothing.
use mathlib.Core.Path.{refl}
use Rattle.lists.specs.Lists.{first}
use Rattle.classify.specs.Classify.{delta_in_range, is_register_op, stamps_agree, is_aligned_op, classify}
use Rattle.classify.specs.RouteExamples.{RouteExamples}

pub route_examples : RouteExamples
unfolding classify is_register_op is_aligned_op stamps_agree delta_in_range first
route_examples = record { in_range = refl; past_range = refl; equal_stamps = refl; high_words_differ = refl }
