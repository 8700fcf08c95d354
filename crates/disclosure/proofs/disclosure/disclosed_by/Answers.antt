use Rattle.std.proofs.Common.{◌≤◌, subst, arith}
use Rattle.std.proofs.lemmas.Option.{IfSome_then}
use Rattle.claim_tree.specs.Tree.{depth, leaf, null, text, array, element}
use Rattle.claim_tree.specs.JsonText.{Reads}
use Rattle.claim_tree.specs.ListTails.{ReadsTail, tail_elements}
use Rattle.claim_tree.specs.View.{tree_of}
use Rattle.disclosure.proofs.Arrays.{value_shallow}
use Rattle.disclosure.proofs.disclosure.disclosed_by.Goals as goal

pub returns-in-Tail-clause-given : goal.returns-in-Tail-clause-given
returns-in-Tail-clause-given c =
    IfSome_then c.given_by.result c.given_by.ensures.given
    (λ d same json reads.
    let read = subst (ReadsTail json) c.in-Tail.is reads in
    (leaf (text read.0), subst (Reads json) (same (leaf (text read.0))) read.1))

pub returns-in-Tail-clause-depth : goal.returns-in-Tail-clause-depth
returns-in-Tail-clause-depth c =
    let kept : depth (array (tail_elements c.in-Tail.tail)) ≤ 127 = rw c.in-Tail.is at c.requires.depth in
    let whole : depth (array (element (leaf null) (tail_elements c.in-Tail.tail))) ≤ 127 = omega (arith, kept) in
    IfSome_then c.given_by.result c.given_by.ensures.given (λ d same. value_shallow (leaf null) d.name (tree_of d.value) (subst (λ t. depth t ≤ 127) (same (leaf null)) whole))
