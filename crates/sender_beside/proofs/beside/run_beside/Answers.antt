use mir.Syntax.{erased, of_param}
use denote.Exit.{no}
use denote.Param.Send.{Quiet-if}
use Rattle.till_calls.proofs.Sent.{seat_send, shop_sync}
use Rattle.sender_beside.proofs.SenderSent.{flag_sync, sent_send}
use Rattle.sender_session.proofs.MeansSent.{means_send}
use Rattle.sender_beside.proofs.beside.run_beside.Goals as goal

pub join-requires-send-A : goal.join-requires-send-A
join-requires-send-A g c κs within =
    let b = c.type_bounds in
    let a = sent_send _ _ _ _ g.D.Disk g.C.Clock b.send-D b.send-C b.send-G b.send-Z in
    record { owned = a.owned; leaving = λ k. Quiet-if (k (of_param 3)) _ _ (a.leaving no) (λ x w. tt) }

pub join-requires-send-F : goal.join-requires-send-F
join-requires-send-F g c κs within =
    let b = c.type_bounds in
    let m = means_send (record { mir = erased; lft = κs.1.1.1.1.1.1.0 }) _ _ b.sync-R b.sync-T in
    let seat = seat_send _ _ g.D.Disk g.C.Clock b.send-D b.send-C in
    let s = shop_sync _ _ g.D.Disk g.D.Disk-dict g.C.Clock g.C.Clock-dict b.send-D b.send-C in
    record {
      owned = λ x vs vss. (
        tt,
        (
          m.owned x.0 vss.0,
          (
            (tt, s.shared x.1.now x.1.ref_ptr.0 x.1.ref_ptr.1 _),
            (
              seat.owned x.2 vss.1.1.0,
              (
                b.send-G.owned x.3 vss.1.1.1.0,
                (b.send-Z.owned x.4 vss.1.1.1.1.0, ((tt, flag_sync.shared x.5.now x.5.ref_ptr.0 x.5.ref_ptr.1 _), tt)),
              ),
            ),
          ),
        ),
      );
      leaving = λ k. Quiet-if (k (of_param 1)) _ _ (λ x w. (tt, (tt, ((((tt, tt), tt), tt), (tt, (tt, tt)))))) (λ x w. tt);
    }
