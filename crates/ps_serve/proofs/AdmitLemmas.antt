-- The begin of a session.
use Rattle.std.proofs.Common.{◌≡◌, ◌≢◌, ℕ, ◌≤◌, true, List, [], ◌∷◌, ◌++◌, length, Option, Some, None, refl, ap, sym, ◌∙◌, subst, inl, arith, true≢false}
use Rattle.std.specs.Prelude.{All, IsSome, IfSome}
use Rattle.std.proofs.lemmas.List.{append-nil}
use Rattle.std.proofs.lemmas.List.Elements.{All-nil}
use Rattle.ps_lines.specs.declared.command.HallCmd.TheVariants as hall_commands
use Rattle.ps_hall.specs.declared.entry.HallEntry.{HallEntry}
use Rattle.ps_histlock.specs.declared.view.View.{View}
use Rattle.ps_histlock.specs.Histories.{commands, entry}
use Rattle.ps_session.specs.Sessions.{Record, begun}
use Rattle.ps_outside.specs.Clocks.{IsNow, after_now}
use Rattle.ps_outside.specs.Links.{Talk, LinkCounts}
use Rattle.server_places.specs.declared.site.Root.{Root}
use Rattle.server_places.specs.Halls.{HallShows}
use Rattle.ps_hub.specs.Hubs.{Hub, root_of}
use Rattle.ps_hub.specs.Names.{Names}
use Rattle.ps_hub.specs.Passes.{HallPass, RoomPass, AreOf}
use Rattle.ps_hub.specs.Calls.{hall_entry, Admits}
use Rattle.ps_hub.specs.declared.passes.Passes.{Passes}
use Rattle.ps_hub.proofs.AdmitLemmas.{admit_seen, admit_other}
use Rattle.ps_serve.specs.Names.{LooksFreshly}
use Rattle.ps_serve.specs.declared.closed.End.TheVariants as ends
use Rattle.ps_serve.specs.Acts.{since}
use Rattle.ps_serve.specs.Sendings.{Sending, AreLooksAnswered}
use Rattle.ps_serve.specs.Sittings.{IsSent, HallSits, PlaceSits, IsBegun, IsFrom, AreApart, Sits}
use Rattle.ps_serve.specs.Steps.{Hours, TalksIf, Stands}
use Rattle.ps_serve.specs.Ends.{Account, AreOfLink, HallSent, RoomSent, IsLabelled, HallMade, HallGiven, RoomMade, RoomGiven, AreAnswers, IsAsked, IsOpen, TellsMoments, HallLooks, RoomLooks, IsHallOf, IsRoomOf, IsBegunBy, IsOwnStart, starts_in, HallElsewhere, RoomElsewhere, Served}
use Rattle.ps_serve.proofs.Prefixes.{prefix_same}

-- ---- the Open was made

hall_admitted : (hub : Hub) (conn moment : ℕ) (p : Passes) → (a : Admits hub conn moment p) → HallSits hub conn [] 0 [] a.pass
hall_admitted hub conn moment p a = record {
  entries = ap (λ (v : View Root HallEntry). commands v.mine) a.split;
  count = ap (λ (v : View Root HallEntry). length v.looks) a.split;
  looks = subst (AreLooksAnswered (HallShows conn (root_of hub)) (commands a.pass.pass.1.seen) None None [] 1) (sym (ap (λ (v : View Root HallEntry). v.looks) a.split)) tt;
  sent = subst (λ (n : ℕ). IsSent (HallShows conn (root_of hub)) (commands a.pass.pass.1.seen) n None None []) (sym a.at) ([], refl, refl);
}

-- nothing is kept of any room
of_none : (P : RoomPass → Type 0) (rooms : List RoomPass) → rooms ≡ [] → All P rooms
of_none P rooms e = subst (All P) (sym e) (All-nil P)

pub admitted : (hub : Hub) (conn moment : ℕ) (p : Passes) (session : Record) → AreOf hub p → Admits hub conn moment p → session ≡ begun conn → Sits hub conn moment [] 0 [] session p
admitted hub conn moment p session are a begins = let o = admit_seen hub conn moment p a in record {
  are = are;
  conn_is = a.conn_is;
  way = tt;
  session_is = begins;
  badge_is = a.badge ∙ sym (ap (λ (r : Record). r.badge) begins);
  hall_pass = a.pass;
  hall = a.hall;
  hall_sits = hall_admitted hub conn moment p a;
  rooms = of_none (PlaceSits hub conn [] 0 []) p.rooms.items a.rooms;
  joined = of_none (λ (k : RoomPass). IsSome k.id → since k.number [] ≢ []) p.rooms.items a.rooms;
  others = λ number none. record { no_cmds = refl; not_joined = refl; not_asked = refl; not_begun = refl; not_sent = refl };
  apart = subst AreApart (sym a.rooms) tt;
  begun = All-nil (IsBegun p.rooms.items);
  named = of_none (λ (k : RoomPass). IsSome k.id → IsSome p.badge) p.rooms.items a.rooms;
  gave = tt;
  from = All-nil (IsFrom p.rooms.items);
  opened = record { before = o.before; opener = a.by; there = prefix_same (o.before ++ entry a.by (hall_entry conn moment hall_commands.Open) ∷ []) a.pass.pass.1.seen (sym o.seen_is); alone = o.alone; other = admit_other hub conn moment p are a };
  on_time = All-nil (λ (s : Sending). s.after ≤ 0);
}

talks_first : (talk : Option Talk) → TalksIf [] [] talk talk
talks_first None = tt
talks_first (Some t) = record { given = refl; answers = omega arith; sent = sym (append-nil t.sent) }

pub stands_first : (hub : Hub) (conn moment : ℕ) (p : Passes) (session : Record) (talk : Option Talk) (counts : LinkCounts) (hours : Hours) → AreOf hub p → Admits hub conn moment p → session ≡ begun conn → Stands hub conn moment [] [] session p talk talk counts counts hours hours
stands_first hub conn moment p session talk counts hours are a begins = record { sits = admitted hub conn moment p session are a begins; up = inl refl; talks = talks_first talk; faults = refl; ends_is = refl; asked = refl }

-- ---- memory ran out for it

abbrev nothing_told : ℕ → Account
nothing_told moment = record { acts = []; sendings = []; rest = []; opened = moment; extra = []; left = 0 }

at_none : (P : HallPass → Type 0) (passes : Passes) → passes.hall ≡ None → IfSome passes.hall P
at_none P passes is = subst (λ (o : Option HallPass). IfSome o P) (sym is) tt

nothing_came : (moment : ℕ) (talk : Option Talk) → AreOfLink (nothing_told moment) talk talk
nothing_came moment None = tt
nothing_came moment (Some t) = record { given = refl; answers = omega arith; sent = sym (append-nil t.sent) }

pub unserved : (hub : Hub) (conn moment : ℕ) (p : Passes) (talk : Option Talk) (counts : LinkCounts) (start hours : Hours) → p.conn ≡ conn → p.badge ≡ None → p.hall ≡ None → p.rooms.items ≡ [] → IsNow start moment → hours ≡ after_now start → (t : Account) × Served ends.NoMemory hub conn t p talk talk counts counts start hours
unserved hub conn moment p talk counts start hours conn_is no_badge no_hall no_rooms now later =
    let t = nothing_told moment in (
      t,
      record {
        told = (nothing_came moment talk, tt);
        sent = record { hall = at_none (HallSent true hub conn t) p no_hall; rooms = of_none (RoomSent true hub conn t) p.rooms.items no_rooms };
        labels = All-nil (IsLabelled hub p.rooms.items);
        entries = record {
          hall = at_none (HallMade true conn t) p no_hall;
          hall_given = at_none (HallGiven true conn t) p no_hall;
          rooms = of_none (RoomMade true conn p.badge t) p.rooms.items no_rooms;
          rooms_given = of_none (RoomGiven true conn t) p.rooms.items no_rooms;
          badge = no_badge;
        };
        answers = record { made = at_none (AreAnswers true hub conn t p.rooms.items) p no_hall; rightly = tt; asked = of_none (IsAsked ends.NoMemory hub t) p.rooms.items no_rooms };
        opened = subst (IsOpen true conn t p) (sym no_hall) (no_rooms, refl, refl, refl);
        moments = subst (λ (o : Option HallPass). TellsMoments ends.NoMemory conn t o start hours) (sym no_hall) (now, later);
        looks = record {
          hall = at_none (HallLooks true hub conn t) p no_hall;
          rooms = of_none (RoomLooks true hub conn t) p.rooms.items no_rooms;
          fresh = record { hall = at_none (λ (h : HallPass). LooksFreshly h.pass.1) p no_hall; rooms = of_none (λ (k : RoomPass). LooksFreshly k.pass.1) p.rooms.items no_rooms };
        };
        of = record { of = λ some. absurd (true≢false (sym (subst IsSome no_hall some))); named = of_none (λ (k : RoomPass). IfSome k.id (λ id. Names hub.config id k.number)) p.rooms.items no_rooms };
        history = record { conn_is = conn_is; hall = at_none (IsHallOf hub) p no_hall; rooms = of_none (IsRoomOf hub) p.rooms.items no_rooms; apart = subst AreApart (sym no_rooms) tt };
        begin = record {
          sure = [];
          are_sure = ([], refl, omega arith);
          begun = All-nil (IsBegunBy p.rooms.items);
          own = of_none (λ (k : RoomPass). All (IsOwnStart t k.number) (starts_in (commands k.pass.1.mine))) p.rooms.items no_rooms;
        };
        worlds = record { hall = at_none (HallElsewhere true hub conn t) p no_hall; rooms = of_none (RoomElsewhere true hub conn t) p.rooms.items no_rooms };
        cause = record { counts = tt; inbox = tt; text = omega arith };
        complete = λ old is within sound. tt;
      },
    )
