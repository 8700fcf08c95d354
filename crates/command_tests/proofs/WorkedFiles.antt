-- What is read of the texts of the worked files suits.
use Rattle.std.proofs.Common.{◌≡◌, ℕ, List, sym, subst}
use Rattle.issuer_core.specs.Order.{order_of}
use Rattle.issuer_core.specs.OrderFile.{IsOrderFile}
use Rattle.issuer_core.specs.declared.order_file.IssueFile.{IssueFile}
use Rattle.holder_core.specs.PresentFile.{IsPresentFile}
use Rattle.holder_core.specs.declared.present_file.PresentFile.{PresentFile}
use Rattle.selection_core.specs.Never.{never_rule}
use Rattle.verifier_core.specs.PolicyFile.{IsPolicyFile}
use Rattle.verifier_core.specs.declared.policy.Policy.{Policy}
use Rattle.sdjwt_cli.specs.PresentedValues.{AreShort}
use Rattle.sdjwt_cli.specs.Presenting.{signing_key}
use Rattle.sdjwt_cli.specs.Suits.{Suits}
use Rattle.sdjwt_cli.proofs.SuitedFiles.{order_file, seed_file, present_file, policy_file, all_suits}
use Rattle.sdjwt_cli.proofs.ReadFiles.{suits_too, short_too}

-- each file comes as a text that is equal to it, so that no proof above this looks into the files
module _ (order_text present_text policy_text : List ℕ) (order_is : order_file ≡ order_text) (present_is : present_file ≡ present_text) (policy_is : policy_file ≡ policy_text)
    (file : IssueFile) (is_order : IsOrderFile order_text file) (said : PresentFile) (is_said : IsPresentFile present_text said) (policy : Policy) (is_policy : IsPolicyFile policy_text policy) where
  of_order : IsOrderFile order_file file
  of_order = subst (λ (text : List ℕ). IsOrderFile text file) (sym order_is) is_order

  of_present : IsPresentFile present_file said
  of_present = subst (λ (text : List ℕ). IsPresentFile text said) (sym present_is) is_said

  of_policy : IsPolicyFile policy_file policy
  of_policy = subst (λ (text : List ℕ). IsPolicyFile text policy) (sym policy_is) is_policy

  pub suits_read : Suits never_rule said.never (order_of file.order) file.key said.ask (signing_key said.key) policy 1000 1300
  suits_read = suits_too order_file seed_file present_file policy_file 1000 1300 all_suits file of_order said of_present policy of_policy never_rule said.never (λ at refuses. refuses)

  pub short_read : AreShort said.ask.binding
  short_read = short_too order_file seed_file present_file policy_file 1000 1300 all_suits file of_order said of_present policy of_policy
