-- An order file without a key says one order, or is refused.
use Rattle.std.proofs.Common.{◌≡◌, ◌≢◌, subst}
use Rattle.sd_outside.specs.Limits.{file_max}
use Rattle.claim_tree.specs.Tree.{Text}
use Rattle.file_members.specs.declared.file_fault.FileFault.{FileFault}
use Rattle.file_members.proofs.FileVerdicts as verdicts
use Rattle.issuer_core.specs.Order.{order_of}
use Rattle.issuer_core.specs.UnsignedOrder.{unsigned_order_table, IsUnsignedOrderFile, IsUnsignedOrderRefused, SaysOrder}
use Rattle.issuer_core.specs.declared.order.Order.{Order}
use Rattle.issuer_core.proofs.OrderFiles.{one_said, said_meet}

-- what the members say of the order
said_order : (bytes : Text) (order : Order) (h : IsUnsignedOrderFile bytes order) → SaysOrder h.members order
said_order bytes order h = record { payload = h.payload; places = record { hide = h.hide; decoys = h.decoys }; kid = h.kid; typ = h.typ; hash = h.hash }

pub one_order : (bytes : Text) (f g : Order) → IsUnsignedOrderFile bytes f → IsUnsignedOrderFile bytes g → order_of f ≡ order_of g
one_order bytes f g h k =
    let same = verdicts.one_object file_max bytes h.members k.members h.file.object k.file.object in
    one_said k.members f g (subst (λ ns. SaysOrder ns f) same (said_order bytes f h)) (said_order bytes g k)

pub not_both : (bytes : Text) (order : Order) (fault : FileFault) → IsUnsignedOrderFile bytes order → IsUnsignedOrderRefused bytes fault → fault ≡ FileFault.Memory
not_both bytes order fault says refused = verdicts.not_refused file_max unsigned_order_table bytes says.members fault says.file (said_meet says.members order (said_order bytes order says)) refused

pub one_fault : (bytes : Text) (fault other : FileFault) → IsUnsignedOrderRefused bytes fault → IsUnsignedOrderRefused bytes other → fault ≢ FileFault.Memory → other ≢ FileFault.Memory → fault ≡ other
one_fault bytes fault other h k = verdicts.one_fault file_max unsigned_order_table bytes fault other h k
