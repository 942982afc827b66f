-- CHALLENGE and AUTHENTICATE: as they are made, sent, taken, kept, asked for and written down.
pub mod CallMessageLaws
pub mod ChallengeLinkLaws
pub mod ChallengeReadLaws
pub mod ClientKeptLaws
pub mod ClientMadeLaws
pub mod ClientOfferLaws
pub mod ClientPlanLaws
pub mod KeptAskLaws
pub mod KeptFirstLaws
pub mod KeyLaws
pub mod MessageApartLaws
pub mod MessageMadeLaws
pub mod MessageNoteLaws
pub mod MessageOnceLaws
pub mod MessageTakenLaws
pub mod NewMessageLaws
pub mod OwnMessageLaws
