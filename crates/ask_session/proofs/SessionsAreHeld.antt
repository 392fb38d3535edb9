-- A session: the opening and the dialog, or a saved session that is refused.
use Rattle.std.proofs.Common.{◌++◌, ◌≡◌, [], ℕ, IsSome, List, None, Option, Some, ap, arith, false, inl, refl, subst, sym, take}
use Rattle.std.specs.Option.{option_map}
use Rattle.edge_ports.proofs.PiecesAddUp.{gave_more, gave_nothing, gave_prefix_after, gave_prefix_before, gave_prefix_whole, took_nothing}
use Rattle.edge_ports.specs.Told.{GaveAll, GavePrefix}
use Rattle.dialog_replies.specs.{Fit.misfit, Lines.misfit_line, Replies.opening_of, Subject.Subject, declared.misfits.Misfit.Misfit, declared.start.Start.Start}
use Rattle.ask_session.proofs.RepliesInOrder.{none_read}
use Rattle.ask_session.specs.{Outside.Outside, Turned.Talked, Went.Went, Wishes.Reads, declared.dialog.Ending.Ending}
use Rattle.ask_session.specs.Dialog.{Granted, all_printed, held_at_start, line_replies, printed_if_fits}
use Rattle.ask_session.specs.Heard.{GaveBy, Heard, IsHeard, RefusedBy, lines_in}
use Rattle.ask_session.specs.Reached.{Reached, telling, telling_from}

-- nothing was heard
abbrev pub nothing : Heard
nothing = record { bytes = []; ended = false }

pub heard_nothing : (left : Option (List ℕ)) → IsHeard left left nothing
heard_nothing left = record {
  took = took_nothing left;
  within = omega arith;
  room = λ e. absurd (let x : ⊥ = cc in x);
  at_end = λ e. absurd (let x : ⊥ = cc in x);
}

nothing_is_prefix : (given : Option (List ℕ)) (text : List ℕ) → GavePrefix given given text
nothing_is_prefix given text = gave_prefix_before given given [] text (gave_prefix_whole given given [] (gave_nothing given))

-- the same outside, but for what the screen was given
abbrev pub with_given : Outside → Option (List ℕ) → Outside
with_given outside given = record outside { streams = record { left = outside.streams.left; given = given } }

module _ (s : Subject) (start : Start) where
  -- ---- a session that ended before anything was heard or given

  pub ended_at_once : (reads : Reads) (outside : Outside) → Went reads s start outside Ending.Memory outside
  ended_at_once reads outside = record {
    heard = nothing;
    granted = [];
    is_heard = heard_nothing outside.streams.left;
    ended = tt;
    refused = tt;
    read = none_read reads;
    answered = omega arith;
    gave = nothing_is_prefix outside.streams.given (all_printed s start [] (lines_in nothing));
    reached = record {
      count = 0;
      within = omega arith;
      answered = inl refl;
      gave = nothing_is_prefix outside.streams.given (all_printed s start [] []);
    };
    files = refl;
    counts = inl refl;
  }

  -- the screen failed in a first part of what was to be said
  pub screen_at_once : (reads : Reads) (outside : Outside) (given : Option (List ℕ)) (text rest : List ℕ)
      → all_printed s start [] (lines_in nothing) ≡ text ++ rest
      → GavePrefix outside.streams.given given text → Went reads s start outside Ending.Screen (with_given outside given)
  screen_at_once reads outside given text rest is gave = record {
    heard = nothing;
    granted = [];
    is_heard = heard_nothing outside.streams.left;
    ended = tt;
    refused = tt;
    read = none_read reads;
    answered = omega arith;
    gave = subst (λ (t : List ℕ). GavePrefix outside.streams.given given t) (sym is) (gave_prefix_before outside.streams.given given text rest gave);
    reached = record {
      count = 0;
      within = omega arith;
      answered = inl refl;
      gave = subst (λ (t : List ℕ). GavePrefix outside.streams.given given t) (sym is) (gave_prefix_before outside.streams.given given text rest gave);
    };
    files = refl;
    counts = refl;
  }

  -- ---- a saved session that does not fit

  pub printed_misfit : (why : Misfit) (granted : List Granted) (lines : List (List ℕ)) → misfit s start ≡ Some why
      → all_printed s start granted lines ≡ misfit_line why
  printed_misfit why granted lines unfit =
      ap (λ (m : Option Misfit). printed_if_fits m (opening_of s start ++ line_replies s (held_at_start start) granted lines)) unfit

  pub refused_so : (reads : Reads) (outside : Outside) (given : Option (List ℕ)) (why : Misfit) → misfit s start ≡ Some why
      → GaveAll outside.streams.given given (misfit_line why) → Went reads s start outside Ending.Refused (with_given outside given)
  refused_so reads outside given why unfit gave = record {
    heard = nothing;
    granted = [];
    is_heard = heard_nothing outside.streams.left;
    ended = (refl, refl);
    refused = subst IsSome (sym unfit) refl;
    read = none_read reads;
    answered = refl;
    gave = subst (λ (t : List ℕ). GaveAll outside.streams.given given t) (sym (printed_misfit why [] (lines_in nothing) unfit)) gave;
    reached = record {
      count = 0;
      within = omega arith;
      answered = inl refl;
      gave = gave_prefix_whole outside.streams.given given (all_printed s start [] [])
          (subst (λ (t : List ℕ). GaveAll outside.streams.given given t) (sym (printed_misfit why [] [] unfit)) gave);
    };
    files = refl;
    counts = refl;
  }

  -- ---- the opening, and the dialog

  pub printed_fit : (granted : List Granted) (lines : List (List ℕ)) → misfit s start ≡ None
      → all_printed s start granted lines ≡ opening_of s start ++ line_replies s (held_at_start start) granted lines
  printed_fit granted lines fits =
      ap (λ (m : Option Misfit). printed_if_fits m (opening_of s start ++ line_replies s (held_at_start start) granted lines)) fits

  -- what a dialog gave after the opening
  module _ (k0 k1 k2 : Option (List ℕ)) (a b : List ℕ) where
    gave_after_opening : (e : Ending) → GaveAll k0 k1 a → GaveBy e k1 k2 b → GaveBy e k0 k2 (a ++ b)
    gave_after_opening Ending.Done f g = gave_more k0 a b f g
    gave_after_opening Ending.Console f g = gave_more k0 a b f g
    gave_after_opening Ending.Spent f g = gave_more k0 a b f g
    gave_after_opening Ending.Refused f g = gave_more k0 a b f g
    gave_after_opening Ending.Screen f g = gave_prefix_after k0 a f g
    gave_after_opening Ending.Memory f g = gave_prefix_after k0 a f g

  -- a dialog does not end as a saved session that is refused
  fit_by : (e : Ending) (m : Option Misfit) → (e ≡ Ending.Refused → ⊥) → m ≡ None → RefusedBy e m
  fit_by Ending.Done m not none = none
  fit_by Ending.Console m not none = none
  fit_by Ending.Spent m not none = none
  fit_by Ending.Refused m not none = absurd (not refl)
  fit_by Ending.Screen m not none = tt
  fit_by Ending.Memory m not none = tt

  -- the opening of a session that fits was given
  pub record Opened (before : Outside) (given : Option (List ℕ)) : Type 0 where
    pub fits : misfit s start ≡ None
    pub gave : GaveAll before.streams.given given (opening_of s start)

  -- as many lines, with the opening before them
  reached_after_opening : (given : Option (List ℕ)) (before after : Outside) → Opened before given → (granted : List Granted) (lines : List (List ℕ))
      → Reached (telling_from s start (held_at_start start)) lines granted given after.streams.given
      → Reached (telling s start) lines granted before.streams.given after.streams.given
  reached_after_opening given before after o granted lines r = record {
    count = r.count;
    within = r.within;
    answered = r.answered;
    gave = subst (λ (text : List ℕ). GavePrefix before.streams.given after.streams.given text) (sym (printed_fit granted (take r.count lines) o.fits))
        (gave_prefix_after before.streams.given (opening_of s start) o.gave r.gave);
  }

  pub went_so : (reads : Reads) (given : Option (List ℕ)) (before after : Outside) (e : Ending) → Opened before given
      → Talked reads s start (with_given before given) e after
      → Went reads s start before e after
  went_so reads given before after e o t = record {
    heard = t.heard;
    granted = t.granted;
    is_heard = t.is_heard;
    ended = t.ended;
    refused = fit_by e (misfit s start) t.not_refused o.fits;
    read = t.read;
    answered = t.answered;
    gave = subst (λ (text : List ℕ). GaveBy e before.streams.given after.streams.given text) (sym (printed_fit t.granted (lines_in t.heard) o.fits))
        (gave_after_opening before.streams.given given after.streams.given (opening_of s start)
        (line_replies s (held_at_start start) t.granted (lines_in t.heard)) e o.gave t.gave);
    reached = reached_after_opening given before after o t.granted (lines_in t.heard) t.reached;
    files = t.files;
    counts = t.counts;
  }

-- ---- the line of a saved session that does not fit, by how it was made

pub fits_by : (m : Option Misfit) → None ≡ option_map misfit_line m → m ≡ None
fits_by None e = refl
fits_by (Some why) e = absurd (let x : ⊥ = cc in x)

pub unfit_by : (m : Option Misfit) (line : List ℕ) → Some line ≡ option_map misfit_line m → (why : Misfit) × (m ≡ Some why) × (line ≡ misfit_line why)
unfit_by None line e = absurd (let x : ⊥ = cc in x)
unfit_by (Some why) line e = let same : line ≡ misfit_line why = cc in (why, refl, same)
