-- The words of a generator, one after another, and the requests that they choose.
use Rattle.std.proofs.Common.{ℕ, ◌≡◌, suc, List, [], ◌∷◌, ◌++◌, refl, sym, ap, append_assoc}
use Rattle.std.proofs.lemmas.List.{append-nil}
use Rattle.rand_pcg.specs.Lcg.{Lcg}
use Rattle.rand_pcg.specs.Pcg.{pcg32}
use Rattle.tatp_model.specs.declared.request.Request.{Request}
use Rattle.tatp_text.specs.declared.draws.Draws.{Draws}
use Rattle.tatp_text.specs.Draws.{after_draws, chosen, draws_of, next_of, subscriber_of, word_of}
use Rattle.tatp_text.specs.Load.{requests_from}

first : (w : ℕ) (g h : Lcg) → (w, h) ≡ pcg32 g → w ≡ word_of g
first w g h e = ap (λ (p : ℕ × Lcg). p.0) e

second : (w : ℕ) (g h : Lcg) → (w, h) ≡ pcg32 g → h ≡ next_of g
second w g h e = ap (λ (p : ℕ × Lcg). p.1) e

-- seven words, each drawn from the generator that the one before left
pub draws_of_steps : (g g1 g2 g3 g4 g5 g6 g7 : Lcg) (w0 w1 w2 w3 w4 w5 w6 : ℕ)
    → (w0, g1) ≡ pcg32 g → (w1, g2) ≡ pcg32 g1 → (w2, g3) ≡ pcg32 g2 → (w3, g4) ≡ pcg32 g3 → (w4, g5) ≡ pcg32 g4 → (w5, g6) ≡ pcg32 g5 → (w6, g7) ≡ pcg32 g6
    → ◌≡◌ {A = Draws} (record { kind = w0; subscriber = w1; facility = w2; start = w3; end = w4; value = w5; number = w6 }) (draws_of g)
unfolding draws_of
draws_of_steps g g1 g2 g3 g4 g5 g6 g7 w0 w1 w2 w3 w4 w5 w6 e0 e1 e2 e3 e4 e5 e6 =
    rw (
      first w6 g6 g7 e6,
      first w5 g5 g6 e5,
      first w4 g4 g5 e4,
      first w3 g3 g4 e3,
      first w2 g2 g3 e2,
      first w1 g1 g2 e1,
      first w0 g g1 e0,
      second w5 g5 g6 e5,
      second w4 g4 g5 e4,
      second w3 g3 g4 e3,
      second w2 g2 g3 e2,
      second w1 g1 g2 e1,
      second w0 g g1 e0,
    ) refl

-- and the generator that they leave
pub after_draws_of_steps : (g g1 g2 g3 g4 g5 g6 g7 : Lcg) (w0 w1 w2 w3 w4 w5 w6 : ℕ)
    → (w0, g1) ≡ pcg32 g → (w1, g2) ≡ pcg32 g1 → (w2, g3) ≡ pcg32 g2 → (w3, g4) ≡ pcg32 g3 → (w4, g5) ≡ pcg32 g4 → (w5, g6) ≡ pcg32 g5 → (w6, g7) ≡ pcg32 g6
    → g7 ≡ after_draws g
unfolding after_draws
after_draws_of_steps g g1 g2 g3 g4 g5 g6 g7 w0 w1 w2 w3 w4 w5 w6 e0 e1 e2 e3 e4 e5 e6 =
    rw (second w6 g6 g7 e6, second w5 g5 g6 e5, second w4 g4 g5 e4, second w3 g3 g4 e3, second w2 g2 g3 e2, second w1 g1 g2 e1, second w0 g g1 e0) refl

-- one more request
pub requests_from-more : (file files each n m : ℕ) (g : Lcg) (done : List Request) → n ≡ suc m
    → done ++ requests_from file files each n g
    ≡ (done ++ chosen (subscriber_of file files each (draws_of g)) (draws_of g) ∷ []) ++ requests_from file files each m (after_draws g)
unfolding requests_from
requests_from-more file files each n m g done e =
    rw e (sym (append_assoc done (chosen (subscriber_of file files each (draws_of g)) (draws_of g) ∷ []) (requests_from file files each m (after_draws g))))

-- no request is left
pub requests_from-none : (file files each n : ℕ) (g : Lcg) (done : List Request) → n ≡ 0 → done ++ requests_from file files each n g ≡ done
unfolding requests_from
requests_from-none file files each n g done e = rw e (append-nil done)
