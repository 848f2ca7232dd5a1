-- From the entries of transactions to the requests done, which have those of `Sync` too and stand in another order.
use Rattle.std.proofs.Common.{◌≡◌, ℕ, true, false, List, map, sym, subst, arith, ⊎_elim}
use Rattle.std.specs.List.{All, AllPairs, Contains}
use Rattle.std.proofs.lemmas.Bool.{cases_Bool, both_ways}
use Rattle.std.proofs.lemmas.List.Elements.{All-weaker, All-contains, All-contains_itself}
use Rattle.dude_base.specs.declared.sizes.Sizes.{Sizes}
use Rattle.tatp_model.specs.declared.request.Request.{Request}
use Rattle.tatp_model.specs.declared.reply.Reply.TheVariants.{Durable}
use Rattle.tatp_model.specs.declared.done.Done.{Done}
use Rattle.tatp_model.specs.Database.{Database}
use Rattle.tatp_model.specs.OneThread.{is_sync, PrecedesInFiles}
use Rattle.run_order.proofs.Pairs.{pairs_among, one_or_other}
use Rattle.run_order.proofs.FileOrder.{in_files_from_holding}
use Rattle.core_events.specs.Views.{Entry}
use Rattle.run_order.specs.Numbers.{HaveSameWriters, AreDatabases, IsAnswered, AreAnswered, Differ, IsNumbered, AreNumbered}
use Rattle.run_order.proofs.Databases.{with_writers}
use Rattle.legal_entries.specs.Served.{done_of, LeadsThrough, AreDoneBy, LawOfDone, LawOfNumbering}
use Rattle.legal_entries.proofs.Law.{each_numbered}
use Rattle.legal_entries.proofs.Writers.{differ_all}

not_before_itself : (d : Done) → PrecedesInFiles d d → ⊥
not_before_itself d before = ⊎_elim (λ less. absurd (omega (arith, less))) (λ same. absurd (omega (arith, same.1))) before

module _ (first : ℕ) (files : List (List Request)) (es : List Entry) (done : List Done) (each : All (IsNumbered first) (map done_of es)) (differ : AllPairs Differ (map done_of es)) (by : AreDoneBy files es done) where
  is_durable : (d : Done) → Contains done d → is_sync d.request ≡ true → (d.reply ≡ Durable) × (d.wrote ≡ false)
  is_durable d c sync = All-contains (λ x. is_sync x.request ≡ true → (x.reply ≡ Durable) × (x.wrote ≡ false)) done d by.syncs c sync

  number_in : (d : Done) → Contains (map done_of es) d → IsNumbered first d
  number_in d c = All-contains (IsNumbered first) (map done_of es) d each c

  -- what wrote is not a `Sync`
  no_sync_done : (d : Done) → Contains done d → d.wrote ≡ true → is_sync d.request ≡ false
  no_sync_done d c w = ⊎_elim (λ sync. absurd (both_ways d.wrote (is_durable d c sync).1 w)) (λ isnt. isnt) (cases_Bool (is_sync d.request))

  no_sync_entry : (d : Done) → Contains (map done_of es) d → d.wrote ≡ true → is_sync d.request ≡ false
  no_sync_entry d c w = ⊎_elim (λ sync. absurd (both_ways d.wrote ((number_in d c).durable sync).1 w)) (λ isnt. isnt) (cases_Bool (is_sync d.request))

  same_writers : HaveSameWriters (map done_of es) done
  same_writers d w = ((λ c. (by.same d (no_sync_entry d c w)).1 c), (λ c. (by.same d (no_sync_done d c w)).0 c))

  number_of : (d : Done) → Contains done d → IsNumbered first d
  number_of d c =
      ⊎_elim
      (λ sync. record { over = λ w. absurd (both_ways d.wrote (is_durable d c sync).1 w); from = λ isnt. absurd (both_ways (is_sync d.request) isnt sync); durable = λ again. is_durable d c again })
      (λ isnt. number_in d ((by.same d isnt).0 c))
      (cases_Bool (is_sync d.request))

  different : (d e : Done) → Contains done d → Contains done e → PrecedesInFiles d e → Differ d e
  different d e c c' before w w' same =
      ⊎_elim
      (λ one. not_before_itself d (subst (λ (x : Done). PrecedesInFiles d x) (sym one) before))
      (λ other. ⊎_elim (λ r. r w w' same) (λ r. r w' w (sym same)) other)
      (one_or_other Differ (map done_of es) d e differ ((same_writers d w).1 c) ((same_writers e w').1 c'))

  pub numbered : AreNumbered first files done
  numbered = record {
    held = by.held;
    each = All-weaker (Contains done) (IsNumbered first) number_of done (All-contains_itself done);
    differ = pairs_among PrecedesInFiles Differ done different (in_files_from_holding by.held.0 done by.held.2);
    follow = by.follow;
  }

  module _ (s : Sizes) (opening : List ℕ) (db : Database) (through : LeadsThrough first s opening db es) where
    leads : AreDatabases first s.calls db done through.databases
    leads = with_writers first s.calls db (map done_of es) done through.databases same_writers through.leads

    answer : (d : Done) → Contains done d → is_sync d.request ≡ false → IsAnswered s.calls through.databases d
    answer d c isnt = All-contains (IsAnswered s.calls through.databases) (map done_of es) d through.answers ((by.same d isnt).0 c)

    answers : AreAnswered s.calls through.databases done
    answers = All-weaker (Contains done) (λ d. is_sync d.request ≡ false → IsAnswered s.calls through.databases d) answer done (All-contains_itself done)

pub law_done : LawOfDone
law_done first s opening db files es done through by = (
  numbered first files es done through.each through.differ by,
  leads first files es done through.each through.differ by s opening db through,
  answers first files es done through.each through.differ by s opening db through,
)

pub law_numbered : LawOfNumbering
law_numbered first s files es done numbers served by = numbered first files es done (each_numbered first s es numbers served) (differ_all es numbers.once) by
