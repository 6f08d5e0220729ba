use Rattle.ra_base.proofs.Crossing.{console_arg_send}
use Rattle.campaign_tests.proofs.of_campaign_console.a_cancel_is_answered_and_what_was_deposited_reported.Goals as goal

pub ran-requires-send-C : goal.ran-requires-send-C
ran-requires-send-C g c κs =
    record { owned = λ x vs. (console_arg_send 1).owned x vs; leaving = λ k x w. (console_arg_send 1).leaving k x w }
