use Rattle.std.proofs.Common.{IfOk, subst}
use Rattle.jws_part.specs.Header.{IsHeader, IsHeaderUnreadable, IsHeaderCritical}
use Rattle.key_binding.proofs.judging.header_of.Goals as goal

pub returns-clause-ok : goal.returns-clause-ok
returns-clause-ok c = subst (λ o. IfOk c.read_header_with-2.result (IsHeader c.args.protected.now o)) c.new.ensures c.read_header_with-2.ensures.ok

pub returns-clause-unreadable : goal.returns-clause-unreadable
returns-clause-unreadable c is = subst (IsHeaderUnreadable c.args.protected.now) c.new.ensures (c.read_header_with-2.ensures.unreadable is)

pub returns-clause-critical : goal.returns-clause-critical
returns-clause-critical c is = subst (IsHeaderCritical c.args.protected.now) c.new.ensures (c.read_header_with-2.ensures.critical is)
