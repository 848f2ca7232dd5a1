use Rattle.std.proofs.Common.{arith}
use Rattle.tatp_check.specs.declared.table_kind.TableKind.TheVariants.{Subscribers, Numbers, Access, Facilities, Calls}
use Rattle.tatp_check.proofs.Contents.{allows}
use Rattle.tatp_check.proofs.table_kind.TableKindContent.allows.Goals as goal

pub returns-in-Subscribers : goal.returns-in-Subscribers
returns-in-Subscribers c = allows c.args.offset c.args.word (omega arith) c.args.self.now Subscribers c.is_subscriber_word.result c.in-Subscribers.is c.is_subscriber_word.ensures

pub returns-in-Numbers : goal.returns-in-Numbers
returns-in-Numbers c = allows c.args.offset c.args.word (omega arith) c.args.self.now Numbers c.is_number_word.result c.in-Numbers.is c.is_number_word.ensures

pub returns-in-Access : goal.returns-in-Access
returns-in-Access c = allows c.args.offset c.args.word (omega arith) c.args.self.now Access c.is_access_word.result c.in-Access.is c.is_access_word.ensures

pub returns-in-Facilities : goal.returns-in-Facilities
returns-in-Facilities c = allows c.args.offset c.args.word (omega arith) c.args.self.now Facilities c.is_facility_word.result c.in-Facilities.is c.is_facility_word.ensures

pub returns-in-Calls : goal.returns-in-Calls
returns-in-Calls c = allows c.args.offset c.args.word (omega arith) c.args.self.now Calls c.is_call_word.result c.in-Calls.is c.is_call_word.ensures
