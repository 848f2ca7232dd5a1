use Rattle.std.proofs.Common.{◌≡◌, ℕ, ◌<◌, List, Some, slice_get, is_ok, true, false, length, get_or, sym, ap, ◌∙◌, arith, rules, refl}
use Rattle.std.proofs.lemmas.List.{get_or-map, length-map}
use Rattle.std.proofs.lemmas.Option.{get_or_from_slice_get}
use Rattle.dude_base.specs.declared.sizes.Sizes.{Sizes}
use Rattle.dude_base.specs.declared.write.Write.{Write}
use Rattle.dude_base.specs.Image.{home_word}
use Rattle.pmem_trait.specs.Sights.{CallsMade.none}
use Rattle.pmem_trait.proofs.Runs.{made_cut, made_whole}
use Rattle.pmem_trait.proofs.GroupLists.{length-put_pairs, puts_next}
use Rattle.redo_record.specs.BackCalls.{home_writes}
use Rattle.back_store.proofs.home_puts.put_home.Goals as goal

-- the put of the write at an index
put_is : (s : Sizes) (ws : List Write) (k place : ℕ) (w : Write) → k < length ws → slice_get ws k ≡ Some w → place ≡ home_word s w.at → get_or (home_writes s ws) k (0, 0) ≡ (place, w.value)
put_is s ws k place w lt is at =
    get_or-map (λ (w : Write). (home_word s w.at, w.value)) ws k w (0, 0) lt ∙ ap (λ (w : Write). (home_word s w.at, w.value)) (get_or_from_slice_get ws k w w is) ∙ ap (λ n. (n, w.value)) (sym at)

long : (s : Sizes) (ws : List Write) → length (home_writes s ws) ≡ length ws
long s ws = length-map ws (λ (w : Write). (home_word s w.at, w.value))

pub loop-index-init : goal.loop-index-init
loop-index-init g c = record { len = refl; made = none }

pub returns-in_err-put-clause-made : goal.returns-in_err-put-clause-made
returns-in_err-put-clause-made g c =
    let err : is_ok c.from_residual.result ≡ false = search rules in
    let ws : List Write = c.args.group.now.writes in
    let lt : c.loop-index.index < length ws = omega (arith, c.len-index-end.ensures) in
    rw err (made_cut _ _ (puts_next (home_writes c.args.place.now ws) c.loop-index.index (0, 0) _ {ok = false} (omega (arith, long c.args.place.now ws)) (put_is c.args.place.now ws c.loop-index.index c.home.result c.get-write.result lt c.get-write.ensures c.home.ensures.place)
    c.loop-index.invariant.made c.in_err-put.ensures))

pub loop-index-preserved : goal.loop-index-preserved
loop-index-preserved g c =
    let ws : List Write = c.args.group.now.writes in
    let lt : c.loop-index.index < length ws = omega (arith, c.len-index-end.ensures) in
    record {
      len = omega arith;
      made = puts_next (home_writes c.args.place.now ws) c.loop-index.index (0, 0) _ {ok = true} (omega (arith, long c.args.place.now ws)) (put_is c.args.place.now ws c.loop-index.index c.home.result c.get-write.result lt c.get-write.ensures c.home.ensures.place)
          c.loop-index.invariant.made c.in_ok-put.ensures;
    }

pub returns-clause-made : goal.returns-clause-made
returns-clause-made g c =
    let ws : List Write = c.args.group.now.writes in
    made_whole _ c.loop-index.index (omega (arith, length-put_pairs (home_writes c.args.place.now ws), long c.args.place.now ws, c.len-index-end.ensures)) c.loop-index.invariant.made

pub returns-in_err-put-clause-len : goal.returns-in_err-put-clause-len
returns-in_err-put-clause-len g c = c.in_err-put.ensures.later.len ∙ c.loop-index.invariant.len

pub returns-clause-len : goal.returns-clause-len
returns-clause-len g c = c.loop-index.invariant.len
