use Rattle.std.proofs.Common.{◌≡◌, ◌++◌, drop}
use Rattle.claim_tree.specs.ListViews.{elements_of, members_of}
use Rattle.claim_tree.proofs.TreeTokens.{elements_tokens, members_tokens}
use Rattle.claim_tree.proofs.tokens.+put.Given as goal

-- what is written and the tokens that are left are all the tokens
abbrev pub invariant-put_elements-loop-tree : goal.invariant-put_elements-loop-tree
invariant-put_elements-loop-tree l =
    (l.out.tokens ++ elements_tokens (elements_of (drop l.tree-index l.tree-items)) ≡ l.initial.out.tokens ++ elements_tokens (elements_of l.tree-items)) × (l.out.before ≡ l.initial.out.before)

abbrev pub invariant-put_members-loop-name : goal.invariant-put_members-loop-name
invariant-put_members-loop-name l =
    (l.out.tokens ++ members_tokens (members_of (drop l.name-index l.name-items)) ≡ l.initial.out.tokens ++ members_tokens (members_of l.name-items)) × (l.out.before ≡ l.initial.out.before)
