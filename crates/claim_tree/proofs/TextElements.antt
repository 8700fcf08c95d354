-- A list of texts as a JSON array: its depth, its numbers, its order.
use Rattle.std.proofs.Common.{◌≡◌, List, [], ◌∷◌, refl, arith}
use Rattle.claim_tree.specs.Tree.{Text, elements_depth, ElementsRanged, ElementsOrdered}
use Rattle.claim_tree.specs.TreeValues.{text_elements}

pub texts_depth : (texts : List Text) → elements_depth (text_elements texts) ≡ 0
texts_depth [] = refl
texts_depth (s ∷ texts) = omega (arith, texts_depth texts)

pub texts_ranged : (texts : List Text) → ElementsRanged (text_elements texts)
texts_ranged [] = tt
texts_ranged (s ∷ texts) = (tt, texts_ranged texts)

pub texts_ordered : (texts : List Text) → ElementsOrdered (text_elements texts)
texts_ordered [] = tt
texts_ordered (s ∷ texts) = (tt, texts_ordered texts)
