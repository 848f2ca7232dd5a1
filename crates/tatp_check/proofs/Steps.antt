-- One link more on the way through a table.
use Rattle.std.proofs.Common.{◌≡◌, ◌≢◌, ℕ, ◌+◌, ◌<◌, List, [], ◌∷◌, ◌++◌, length, All, AllPairs, slice_index, refl, sym, ap, ◌∙◌, subst, arith, inl, inr, append_assoc}
use Rattle.std.proofs.lemmas.Bool.{cases_eq}
use Rattle.std.proofs.lemmas.List.{append-nil, get_or_append_left, get_or_push, length_push}
use Rattle.std.proofs.lemmas.List.Concat.{flat_map-append}
use Rattle.std.proofs.lemmas.List.Elements.{All-nil, All-push}
use Rattle.std.proofs.lemmas.List.Quantifiers.{all_pairs_push}
use Rattle.record_heap.specs.Links.{Linked}
use Rattle.hash_table.specs.declared.table.Table.{Table}
use Rattle.hash_table.specs.Table.{chain_of, link_after, records_in}
use Rattle.hash_table.proofs.Walks.{link_after-push, linked_path}
use Rattle.tatp_check.specs.declared.seen.Seen.{Seen}
use Rattle.tatp_check.specs.Faults.{IsWrongRecord, IsInChains, IsWrongNext}
use Rattle.tatp_check.specs.Marks.{AreMarked, IsNew}
use Rattle.tatp_check.specs.Pools.{IsWrongLink}
use Rattle.tatp_check.specs.Seen.{KnowsMet, KnowsPart, KnowsChains, TakesSound}
use Rattle.tatp_check.specs.Taken.{AreTaken}
use Rattle.tatp_check.specs.Walk.{IsSound}
use Rattle.tatp_check.proofs.PoolSteps.{path_more}

-- the records of chains to which one more was added
pub records_push : (chains : List (List ℕ)) (chain : List ℕ) → records_in (chains ++ chain ∷ []) ≡ records_in chains ++ chain
records_push chains chain = flat_map-append (λ c. c) chains (chain ∷ []) ∙ ap (λ l. records_in chains ++ l) (append-nil chain)

module _ (content : ℕ → ℕ → Type 0) (table : Table) (array : List ℕ) where
  -- nothing was met yet
  pub knows_none : (seen : Seen) → AreMarked table.pool [] seen.marks.marks.items → AreTaken array [] seen.taken → KnowsChains content table array 0 seen
  knows_none seen marked taken = record {
    chains = [];
    buckets_are = refl;
    met = record {
      ended = λ bucket below. absurd (omega (arith, below));
      sound = λ bucket below. absurd (omega (arith, below));
      path = tt;
      part_sound = All-nil (IsSound content table array 0);
      keys_differ = λ i j d lt below. absurd (omega (arith, below));
    };
    knows = record { marked = marked; taken = taken };
  }

  module _ (bucket : ℕ) where
    -- a chain begins
    pub chain_begins : (seen : Seen) → KnowsChains content table array bucket seen → KnowsPart content table array bucket (table.at + bucket) seen
    chain_begins seen known = record {
      chains = known.chains;
      part = [];
      bucket_is = known.buckets_are;
      link_is = refl;
      met = known.met;
      knows = known.knows;
    }

    -- what was met when the word `link` comes next
    abbrev pub met_of : {link : ℕ} {seen : Seen} → KnowsPart content table array bucket link seen → List ℕ
    met_of known = records_in known.chains ++ known.part

    -- the word that a part of the chain leads to
    next_word : {link : ℕ} {seen : Seen} (known : KnowsPart content table array bucket link seen) → link_after (table.at + length known.chains) known.part ≡ link
    next_word known = ap (λ b. link_after (table.at + b) known.part) known.bucket_is ∙ sym known.link_is

    -- something is wrong there
    in_chains : {link word : ℕ} {seen : Seen} (known : KnowsPart content table array bucket link seen) → bucket < table.buckets
        → IsWrongNext content table array (length known.chains) (met_of known) (link_after (table.at + length known.chains) known.part) word → IsInChains content table array word
    in_chains known below next = record { chains = known.chains; part = known.part; met = known.met; bucket = omega (arith, known.bucket_is, below); next = next }

    -- the link is wrong
    pub wrong_link : {link : ℕ} {seen : Seen} (known : KnowsPart content table array bucket link seen) → bucket < table.buckets → slice_index array link ≢ 0 → ¬ IsNew table.pool (met_of known) (slice_index array link)
        → IsInChains content table array link
    wrong_link {link} known below leads astray = in_chains known below (inl (
      subst (IsWrongLink table.pool array (met_of known)) (sym (next_word known)) (record { leads = leads; astray = astray }),
      sym (next_word known),
    ))

    -- it leads to a record that is wrong
    pub wrong_record : {link : ℕ} {seen : Seen} (known : KnowsPart content table array bucket link seen) → bucket < table.buckets → (word : ℕ)
        → IsWrongRecord content table array bucket (met_of known) (slice_index array link) word → IsInChains content table array word
    wrong_record {link} known below word wrong = in_chains known below (inr (
        subst (λ b. IsWrongRecord content table array b (met_of known) (slice_index array (link_after (table.at + length known.chains) known.part)) word) (sym known.bucket_is)
        (subst (λ l. IsWrongRecord content table array bucket (met_of known) (slice_index array l) word) (sym (next_word known)) wrong)))

    -- it leads to a new record, which was taken in
    pub chain_more : {link : ℕ} {seen : Seen} (known : KnowsPart content table array bucket link seen) (new : Seen) → AreMarked table.pool (met_of known ++ slice_index array link ∷ []) new.marks.marks.items
        → TakesSound content table array bucket (slice_index array link) (met_of known) new.taken → KnowsPart content table array bucket (slice_index array link + 1) new
    chain_more {link} known new marked takes =
        let at = slice_index array link in
        let assoc = append_assoc (records_in known.chains) known.part (at ∷ []) in
        record {
          chains = known.chains;
          part = known.part ++ at ∷ [];
          bucket_is = known.bucket_is;
          link_is = sym (link_after-push (table.at + bucket) known.part at);
          met = record {
            ended = known.met.ended;
            sound = known.met.sound;
            path = path_more array _ known.part at known.met.path (ap (λ l. slice_index array l) (next_word known));
            part_sound = All-push (IsSound content table array (length known.chains)) known.part at known.met.part_sound (subst (λ b. IsSound content table array b at) (sym known.bucket_is) takes.sound);
            keys_differ = subst (AllPairs (λ x y. slice_index array x ≢ slice_index array y)) assoc
                (all_pairs_push (λ x y. slice_index array x ≢ slice_index array y) (met_of known) at known.met.keys_differ (λ k d below. takes.new_key k d below));
          };
          knows = record {
            marked = subst (λ l. AreMarked table.pool l new.marks.marks.items) assoc marked;
            taken = subst (λ l. AreTaken array l new.taken) assoc takes.taken_in;
          };
        }

    -- the chain ends
    pub chain_ends : {link : ℕ} {seen : Seen} (known : KnowsPart content table array bucket link seen) → slice_index array link ≡ 0 → KnowsChains content table array (bucket + 1) seen
    chain_ends {link} {seen} known end =
        let whole : Linked array (table.at + length known.chains) known.part = linked_path array (table.at + length known.chains) known.part known.met.path (ap (λ l. slice_index array l) (next_word known) ∙ end) in
        let same : records_in known.chains ++ known.part ≡ records_in (known.chains ++ known.part ∷ []) ++ [] = sym (append-nil (records_in (known.chains ++ known.part ∷ [])) ∙ records_push known.chains known.part) in
        record {
          chains = known.chains ++ known.part ∷ [];
          buckets_are = length_push known.chains known.part ∙ ap (λ b. b + 1) known.bucket_is;
          met = record {
            ended = each_push (λ b. Linked array (table.at + b)) known.chains known.part known.met.ended whole;
            sound = each_push (λ b. All (IsSound content table array b)) known.chains known.part known.met.sound known.met.part_sound;
            path = tt;
            part_sound = All-nil (IsSound content table array (length (known.chains ++ known.part ∷ [])));
            keys_differ = subst (AllPairs (λ x y. slice_index array x ≢ slice_index array y)) same known.met.keys_differ;
          };
          knows = subst (λ l. KnowsMet table array l seen) same known.knows;
        }
      where
        each_push : (P : ℕ → List ℕ → Type 0) (chains : List (List ℕ)) (part : List ℕ) → ((b : ℕ) → b < length chains → P b (chain_of chains b)) → P (length chains) part → (b : ℕ) → b < length (chains ++ part ∷ []) → P b (chain_of (chains ++ part ∷ []) b)
        each_push P chains part before last b below = elim (cases_eq b (length chains)) [
          | inl same ↦ subst (λ k. P k (chain_of (chains ++ part ∷ []) k)) (sym same) (subst (P (length chains)) (sym (get_or_push chains part [] (length chains) refl)) last)
          | inr differ ↦
              let lower : b < length chains = omega (arith, length_push chains part, below, differ) in
              subst (P b) (sym (get_or_append_left chains (part ∷ []) [] b lower)) (before b lower)
        ]
