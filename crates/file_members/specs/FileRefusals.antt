-- Not needed to believe the program's promises: why a file and a member of it are refused.
use Rattle.claim_tree.specs.Tree.{Members}
use Rattle.claim_tree.specs.declared.text.ReadError.{ReadError}
use Rattle.file_members.specs.declared.file_fault.FileFault.{FileFault}
use Rattle.file_members.specs.declared.file_fault.FileFault.TheVariants.{Memory}
use Rattle.file_members.specs.FileForms.{Entry, MemberFails}

-- why a member is refused; want of memory says nothing
abbrev pub IsMemberRefused : Entry → Members → FileFault → Type 0
IsMemberRefused entry ms Memory = Unit {0}
IsMemberRefused entry ms fault = MemberFails entry ms fault

-- the fault of a file whose text is not read
abbrev pub unread_fault : ReadError → FileFault
unread_fault ReadError.Memory = FileFault.Memory
unread_fault ReadError.NotJson = FileFault.NotJson
unread_fault ReadError.NotWhole = FileFault.NotWhole
