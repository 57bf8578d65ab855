pub mod OfferText
