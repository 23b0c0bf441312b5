use Rattle.std.proofs.Common.{rules}
use Rattle.std.proofs.lemmas.List.Sorted.{answers_always}
use Rattle.image.specs.Format.{section_of}
use Rattle.image.proofs.Order.{rises, in_order_is}
use Rattle.image.proofs.rules.in_order.Goals as goal

pub returns : goal.returns
returns c = in_order_is _ _ (c.is_sorted_by.ensures.cases (λ x y. rises (section_of x) (section_of y)) (answers_always _ _ _ (λ f a r f' k. search rules)))
