-- Where nothing is done.
use Rattle.std.proofs.Common.{◌≡◌, ℕ, ◌+◌, ◌≤◌, false, true, IsTrue, List, [], ◌∷◌, refl, sym}
use Rattle.std.specs.List.{AllZip}
use Rattle.std.proofs.lemmas.List.Elements.{All-nil}
use Rattle.dude_base.specs.declared.sizes.Sizes.{Sizes}
use Rattle.tatp_model.specs.declared.reply.Reply.TheVariants.{Durable}
use Rattle.tatp_model.specs.declared.request.Request.{Request}
use Rattle.tatp_model.specs.OneThread.{HoldsPrefixes, IsPrefixOf, indexed_requests_from, is_sync}
use Rattle.run_order.proofs.Pairs.{pairs_nil}
use Rattle.run_order.specs.Numbers.{FollowsInFile}
use Rattle.legal_entries.specs.Served.{IsServed}
use Rattle.run_threads.specs.HasRun.{AreEntriesDone}

none_of : List (List Request) → List (List Request)
none_of [] = []
none_of (f ∷ files) = [] ∷ none_of files

none_prefixes : (files : List (List Request)) → AllZip IsPrefixOf (none_of files) files
unfolding none_of
none_prefixes [] = tt
none_prefixes (f ∷ files) = ((f, refl), none_prefixes files)

none_asked : (file : ℕ) (files : List (List Request)) → indexed_requests_from file (none_of files) ≡ []
unfolding none_of
none_asked file [] = refl
none_asked file (f ∷ files) = none_asked (file + 1) files

pub none_held : (files : List (List Request)) → HoldsPrefixes files []
none_held files = (none_of files, none_prefixes files, sym (none_asked 0 files))

pub none_done : (sizes : Sizes) (first synced : ℕ) (files : List (List Request)) → AreEntriesDone sizes first synced files [] []
none_done sizes first synced files = record {
  served = All-nil (IsServed sizes);
  done_by = record {
    held = none_held files;
    follow = pairs_nil FollowsInFile;
    same = λ d no. ((λ c. c), (λ c. c));
    syncs = All-nil (λ d. is_sync d.request ≡ true → (d.reply ≡ Durable) × (d.wrote ≡ false));
  };
  follow = pairs_nil (λ d e. d.file ≡ e.file → IsTrue (is_sync e.request) → d.number ≤ e.number);
  syncs = All-nil (λ d. IsTrue (is_sync d.request) → (first ≤ d.number) × (d.number ≤ synced));
}
